-- What a version keeps after one operation more.
use Rattle.std.proofs.Common.{◌≡◌, ℕ, zero, suc, ◌+◌, ◌<◌, ◌≤◌, ◌^◌, ◌⊎◌, inl, inr, List, [], ◌∷◌, ◌++◌, map, take, drop, length, refl, sym, ap, ◌∙◌, subst, arith, append_assoc, length-append}
use Rattle.std.specs.Prelude.{◌↔◌, Contains, IfErr, IsErrAnd, Option, Result, Ok, Err}
use Rattle.std.specs.List.{take-map}
use Rattle.std.specs.List.Sorted.{IsStrictlyIncreasing}
use Rattle.std.proofs.lemmas.List.{append-nil, length-map, length-take, map-append, map_push, take-append-drop}
use Rattle.std.proofs.lemmas.List.Concat.{flat_map-append}
use Rattle.std.proofs.lemmas.List.Elements.{Contains-append_left, Contains-push, Contains-push_cases}
use Rattle.std.proofs.lemmas.List.Sums.{sum_by-append}
use Rattle.ix_text.specs.Collections.{Document, NamedText, collection_of}
use Rattle.ix_text.specs.Parts.{DocumentRow, row_of}
use Rattle.ix_merge.specs.Rows.{tokens_in}
use Rattle.ix_live.specs.declared.entry.Entry.{Entry}
use Rattle.ix_live.specs.declared.entry.Entry.TheVariants.{Added, Removed}
use Rattle.ix_live.specs.declared.live_error.LiveError.{LiveError}
use Rattle.ix_live.specs.declared.live_error.LiveError.TheVariants.{Build, TooLarge, Memory, Number}
use Rattle.ix_live.specs.declared.segment.Segment.{Segment}
use Rattle.ix_live.specs.Growing.{Grows, documents_under, tokens_of}
use Rattle.ix_live.specs.LiveErrors.{IsOfBuilding, RefusesAddition, RefusesDocuments}
use Rattle.ix_live.specs.Operations.{Operation, Add, Remove, added, addition_of, documents_added, numbers_removed, removed}
use Rattle.ix_live.specs.Pieces.{Falls, Piece, after_adding, piece_at, pieces_in}
use Rattle.ix_scan.specs.ScansWithout.{of_documents}
use Rattle.ix_live.specs.Segments.{AreSegmentsOf, IsSegmentOf, joined, rows_at, rows_in}
use Rattle.ix_live.specs.Versions.{IsStored, entry_of}
use Rattle.ix_live.proofs.Beginnings.{joined_push}
use Rattle.ix_live.proofs.Falling.{falls_after, falls_few, few_generations}
use Rattle.ix_live.proofs.FoundLemmas.{rows_of_all}

-- a collection is its stop set and its documents
pub of_its_documents : (stop : List (List ℕ)) (texts : List NamedText) → collection_of stop texts ≡ of_documents stop (documents_under stop texts)
unfolding collection_of
of_its_documents stop texts = refl

pub documents_counted : (stop : List (List ℕ)) (texts : List NamedText) → length (documents_under stop texts) ≡ length texts
unfolding collection_of
documents_counted stop texts = length-map texts _

segments_take : (stop : List (List ℕ)) (segments : List (Option Segment)) (lists : List (List Document)) (k : ℕ) → AreSegmentsOf stop segments lists → AreSegmentsOf stop (take k segments) (take k lists)
segments_take stop [] [] zero are = tt
segments_take stop [] [] (suc k) are = tt
segments_take stop [] (l ∷ ls) k are = absurd are
segments_take stop (s ∷ ss) [] k are = absurd are
segments_take stop (s ∷ ss) (l ∷ ls) zero are = tt
segments_take stop (s ∷ ss) (l ∷ ls) (suc k) are = (are.0, segments_take stop ss ls k are.1)

segments_push : (stop : List (List ℕ)) (segments : List (Option Segment)) (lists : List (List Document)) (segment : Option Segment) (list : List Document)
    → AreSegmentsOf stop segments lists → IsSegmentOf stop segment list → AreSegmentsOf stop (segments ++ segment ∷ []) (lists ++ list ∷ [])
segments_push stop [] [] segment list are is = (is, tt)
segments_push stop [] (l ∷ ls) segment list are is = absurd are
segments_push stop (s ∷ ss) [] segment list are is = absurd are
segments_push stop (s ∷ ss) (l ∷ ls) segment list are is = (are.0, segments_push stop ss ls segment list are.1 is)

-- the documents of the first lists, and of the others with more behind them
joined_parts : (lists : List (List Document)) (k : ℕ) (documents : List Document) → joined (take k lists ++ (joined (drop k lists) ++ documents) ∷ []) ≡ joined lists ++ documents
joined_parts lists k documents =
    joined_push (take k lists) (joined (drop k lists) ++ documents)
    ∙ sym (append_assoc (joined (take k lists)) (joined (drop k lists)) documents)
    ∙ ap (λ (l : List Document). l ++ documents) (sym (flat_map-append (λ (l : List Document). l) (take k lists) (drop k lists)) ∙ ap joined (take-append-drop k lists))

documents_then : (operations : List Operation) (documents : List Document) → documents_added (operations ++ Add documents ∷ []) ≡ documents_added operations ++ documents
documents_then operations documents = flat_map-append added operations (Add documents ∷ []) ∙ ap (λ (l : List Document). documents_added operations ++ l) (append-nil documents)

none_removed : (operations : List Operation) (documents : List Document) → numbers_removed (operations ++ Add documents ∷ []) ≡ numbers_removed operations
none_removed operations documents = flat_map-append removed operations (Add documents ∷ []) ∙ append-nil (numbers_removed operations)

none_added : (operations : List Operation) (number : ℕ) → documents_added (operations ++ Remove number ∷ []) ≡ documents_added operations
none_added operations number = flat_map-append added operations (Remove number ∷ []) ∙ append-nil (documents_added operations)

removed_then : (operations : List Operation) (number : ℕ) → numbers_removed (operations ++ Remove number ∷ []) ≡ numbers_removed operations ++ number ∷ []
removed_then operations number = flat_map-append removed operations (Remove number ∷ [])

tokens_together : (xs ys : List Document) → tokens_in (map row_of (xs ++ ys)) ≡ tokens_of xs + tokens_of ys
tokens_together xs ys = ap tokens_in (map-append row_of xs ys) ∙ sum_by-append (λ (row : DocumentRow). row.tokens) (map row_of xs) (map row_of ys)

-- the pieces of a table with documents more
pub pieces_grown : (stop : List (List ℕ)) (segments : List (Option Segment)) (documents : List Document) (left : ℕ) (place : Option Segment) → Grows stop segments documents left place
    → pieces_in (take left segments ++ place ∷ []) ≡ after_adding (length documents) (pieces_in segments)
pieces_grown stop segments documents left place grows =
    map_push piece_at (take left segments) place ∙ ap (λ (l : List Piece). l ++ piece_at place ∷ []) (sym (take-map piece_at left segments))
    ∙ ap (λ (p : Option Segment). take left (pieces_in segments) ++ piece_at p ∷ []) grows.is ∙ grows.pieces

module _ (stop : List (List ℕ)) (segments : List (Option Segment)) (entries : List Entry) (gone : List ℕ) (count tokens : ℕ) (operations : List Operation)
    (stored : IsStored stop segments entries gone count tokens operations) where
  rows_all : rows_in segments ≡ map row_of (joined stored.lists)
  rows_all = rows_of_all stop segments stored.lists stored.indexed

  pub stored_more : (documents : List Document) (left more size : ℕ) (place : Option Segment) → Grows stop segments documents left place → size ≡ length documents → more ≡ tokens_of documents → count + size ≤ 2 ^ 28
      → tokens + more ≤ 2 ^ 28 → IsStored stop (take left segments ++ place ∷ []) (entries ++ Added size ∷ []) gone (count + size) (tokens + more) (operations ++ Add documents ∷ [])
  stored_more documents left more size place grows sized counted few few_tokens =
      let last = joined (drop left stored.lists) ++ documents in
      let lists = take left stored.lists ++ last ∷ [] in
      let merged : IsSegmentOf stop place last = subst (λ (p : Option Segment). IsSegmentOf stop p last) (sym grows.is) (grows.merged stored.lists stored.indexed) in
      let indexed = segments_push stop (take left segments) (take left stored.lists) place last (segments_take stop segments stored.lists left stored.indexed) merged in
      let all = joined_parts stored.lists left documents in
      let rows : rows_in (take left segments ++ place ∷ []) ≡ map row_of (joined stored.lists ++ documents) = rows_of_all stop (take left segments ++ place ∷ []) lists indexed ∙ ap (map row_of) all in
      let before = ap length rows_all ∙ length-map (joined stored.lists) row_of in
      record {
        lists = lists;
        indexed = indexed;
        documents = documents_then operations documents ∙ ap (λ (l : List Document). l ++ documents) stored.documents ∙ sym all;
        cut = map_push entry_of operations (Add documents) ∙ ap (λ (l : List Entry). l ++ Added (length documents) ∷ []) stored.cut ∙ ap (λ (n : ℕ). entries ++ Added n ∷ []) (sym sized);
        ascending = stored.ascending;
        all_removed = subst (λ (l : List ℕ). (number : ℕ) → Contains gone number ↔ Contains l number) (sym (none_removed operations documents)) stored.all_removed;
        counted = omega (arith, stored.counted, before, sized, ap length rows, length-map (joined stored.lists ++ documents) row_of, length-append (joined stored.lists) documents);
        few = few;
        tokens_counted = omega (arith, stored.tokens_counted, ap tokens_in rows_all, ap tokens_in rows, tokens_together (joined stored.lists) documents, counted);
        few_tokens = few_tokens;
        falling = subst Falls (sym (pieces_grown stop segments documents left place grows)) (falls_after (length documents) (pieces_in segments) stored.falling);
      }

  pub stored_removed : (number : ℕ) (now : List ℕ) → IsStrictlyIncreasing now → ((m : ℕ) → Contains now m ↔ (Contains gone m ⊎ (number ≡ m)))
      → IsStored stop segments (entries ++ Removed number ∷ []) now count tokens (operations ++ Remove number ∷ [])
  stored_removed number now ascending has = record {
    lists = stored.lists;
    indexed = stored.indexed;
    documents = none_added operations number ∙ stored.documents;
    cut = map_push entry_of operations (Remove number) ∙ ap (λ (l : List Entry). l ++ Removed number ∷ []) stored.cut;
    ascending = ascending;
    all_removed = subst (λ (l : List ℕ). (m : ℕ) → Contains now m ↔ Contains l m) (sym (removed_then operations number)) both;
    counted = stored.counted;
    few = stored.few;
    tokens_counted = stored.tokens_counted;
    few_tokens = stored.few_tokens;
    falling = stored.falling;
  }
    where
      both : (m : ℕ) → Contains now m ↔ Contains (numbers_removed operations ++ number ∷ []) m
      both m = (
        (λ h. elim ((has m).0 h) [
          | inl was ↦ Contains-append_left (numbers_removed operations) (number ∷ []) m ((stored.all_removed m).0 was)
          | inr same ↦ subst (λ (n : ℕ). Contains (numbers_removed operations ++ number ∷ []) n) same (Contains-push (numbers_removed operations) number)
        ]),
        (λ h. elim (Contains-push_cases (numbers_removed operations) number m h) [
          | inl was ↦ (has m).1 (inl ((stored.all_removed m).1 was))
          | inr same ↦ (has m).1 (inr same)
        ]),
      )

-- ---- sizes

module _ (stop : List (List ℕ)) (segments : List (Option Segment)) (entries : List Entry) (gone : List ℕ) (count tokens : ℕ) (operations : List Operation)
    (stored : IsStored stop segments entries gone count tokens operations) where
  pub rows_stored : rows_in segments ≡ map row_of (documents_added operations)
  rows_stored = rows_of_all stop segments stored.lists stored.indexed ∙ ap (map row_of) (sym stored.documents)

  pub count_stored : count ≡ length (documents_added operations)
  count_stored = stored.counted ∙ ap length rows_stored ∙ length-map (documents_added operations) row_of

  pub refused_addition : (workers : ℕ) (documents : List Document) (error : LiveError) → RefusesDocuments workers (length (rows_in segments)) tokens documents error → RefusesAddition workers operations documents error
  refused_addition workers documents error h =
      let size : length (rows_in segments) ≡ length (documents_added operations) = ap length rows_stored ∙ length-map (documents_added operations) row_of in
      let all : tokens ≡ tokens_of (documents_added operations) = stored.tokens_counted ∙ ap tokens_in rows_stored in
      subst (λ (n : ℕ). RefusesDocuments workers n (tokens_of (documents_added operations)) documents error) size
      (subst (λ (n : ℕ). RefusesDocuments workers (length (rows_in segments)) n documents error) all h)

  pub few_enough : (texts size : ℕ) → size ≡ texts → count + size ≤ 2 ^ 28 → length (documents_added operations) + texts ≤ 2 ^ 28
  few_enough texts size is h = omega (arith, is, h, count_stored)

  pub too_many : (documents : List Document) (size : ℕ) → size ≡ length documents → 2 ^ 28 < count + size → 2 ^ 28 < length (documents_added operations) + length documents
  too_many documents size is h = omega (arith, is, h, count_stored)

-- the first errors are those of each addition
pub refused_by_building : (workers count tokens : ℕ) (documents : List Document) (error : LiveError) → count + length documents ≤ 2 ^ 28 → IsOfBuilding workers error
    → RefusesDocuments workers count tokens documents error
refused_by_building workers count tokens documents (Build error) few h = (few, h)
refused_by_building workers count tokens documents TooLarge few h = absurd h
refused_by_building workers count tokens documents Memory few h = few
refused_by_building workers count tokens documents (Number number) few h = absurd h

pub addition_some : (documents : List Document) → 0 < length documents → Add documents ∷ [] ≡ addition_of documents
addition_some [] some = absurd (omega (arith, some))
addition_some (d ∷ ds) some = refl

-- a table of so few documents has room
pub table_few : (segments : List (Option Segment)) → Falls (pieces_in segments) → length (rows_in segments) ≤ 2 ^ 28 → length segments ≤ 29
table_few [] falls few = omega arith
table_few (s ∷ ss) falls few =
    let behind = falls_few (piece_at s) (pieces_in ss) falls in
    let own : length (rows_at s) ≤ length (rows_in (s ∷ ss)) = omega (arith, length-append (rows_at s) (rows_in ss)) in
    let low = few_generations (piece_at s).generation (length (rows_at s)) falls.1 (omega (arith, own, few)) in
    omega (arith, behind, low, length-map ss piece_at)

pub room_left : (segments : List (Option Segment)) (left : ℕ) → Falls (pieces_in segments) → length (rows_in segments) ≤ 2 ^ 28 → length (take left segments) < 32
room_left segments left falls few = omega (arith, table_few segments falls few, length-take left segments)

-- the same, of fields that became these
pub stored_is : (stop : List (List ℕ)) (segments segments' : List (Option Segment)) (entries entries' : List Entry) (gone : List ℕ) (count tokens : ℕ) (operations operations' : List Operation)
    → segments' ≡ segments → entries' ≡ entries → operations' ≡ operations → IsStored stop segments entries gone count tokens operations → IsStored stop segments' entries' gone count tokens operations'
stored_is stop segments segments' entries entries' gone count tokens operations operations' one two three h =
    subst (λ (s : List (Option Segment)). IsStored stop s entries' gone count tokens operations') (sym one)
    (subst (λ (e : List Entry). IsStored stop segments e gone count tokens operations') (sym two) (subst (λ (o : List Operation). IsStored stop segments entries gone count tokens o) (sym three) h))

-- what holds of an error holds of the same error, passed on
pub passed_on : {T E : Type 0} (P : E → Type 0) (result : Result T E) (told : E) → IsErrAnd result (λ error. error ≡ told) → P told → IfErr result P
passed_on P (Ok value) told is holds = tt
passed_on P (Err error) told is holds = subst P (sym is) holds
