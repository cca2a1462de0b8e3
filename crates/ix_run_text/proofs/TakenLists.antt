-- A reader that takes the first postings of the list that is left.
use Rattle.std.proofs.Common.{◌≡◌, ℕ, ◌-◌, ◌+◌, ◌^◌, ◌<◌, ◌≤◌, List, [], ◌∷◌, ◌++◌, length, take, drop, Option, Some, None, IfSome, sum_by, refl, sym, ap, ap₂, subst, ◌∙◌, arith, length-append, take-append-drop}
use Rattle.std.proofs.Math.Seq.{take-append_seam}
use Rattle.std.proofs.lemmas.List.{append_assoc, append-nil, length-take-le, map-append, take-take}
use Rattle.std.proofs.lemmas.List.Elements.{All-nil, All-cons, All-contains, All-head, All-tail, Contains-append_left, Contains-push}
use Rattle.std.specs.Io.KnownBytes.{Consumes}
use Rattle.std.specs.List.{flat_map}
use Rattle.ix_text.specs.Parts.{DictionaryEntry, DocumentRow, Posting}
use Rattle.ix_postings.specs.TokenMarks.{HoldsNumbers}
use Rattle.ix_text.specs.TokenNumbers.{AreDistinct, numbers_of_entries, numbers_of_posting, numbers_of_postings}
use Rattle.ix_text.proofs.DistinctNumbers.{distinct_front}
use Rattle.ix_text.proofs.TokensApart.{numbers_of_postings-append}
use Rattle.ix_vbyte.specs.Gaps.{Ascends, next_after}
use Rattle.ix_vbyte.specs.Postings.{ArePostings, IsPosting, documents_of, list_bytes_from, posting_bytes}
use Rattle.ix_vbyte.proofs.Postings.{posting_apart}
use Rattle.ix_run_text.specs.Heads.{Heading, heading_of}
use Rattle.ix_run_text.specs.Inputs.{bytes_held, known_left}
use Rattle.ix_postings.specs.NextPostings.{PostingsFit}
use Rattle.ix_run_text.specs.Reading.{LieAhead, LieBehind, MayLieAhead, Standing, Told, bytes_ahead, postings_ahead, standing}
use Rattle.ix_run_text.specs.RunText.{term_bytes}
use Rattle.ix_run_text.specs.Sources.{AreWhole, IsLawfulFront, closed, entry_with, extended}
use Rattle.ix_run_text.specs.declared.input.Input.{Input}
use Rattle.ix_run_text.specs.declared.run_reader.Place.TheVariants.{AtTerm}
use Rattle.ix_run_text.specs.declared.run_reader.RunReader.{RunReader}
use Rattle.ix_postings.proofs.FitPostings.{fit_are}
use Rattle.ix_run_text.proofs.ReadFronts.{closed-none, extended-nil, front_more, numbers_more}
use Rattle.ix_run_text.proofs.ReadSteps.{last_stays, no_entry, not_ended, spelled_before, term_at_hand}
use Rattle.ix_run_text.proofs.ReadWholes.{closed-given}
use Rattle.ix_run_text.proofs.WholeLists.{codable, postings_behind}

-- ---- lists in two parts

next_after-append : (next : ℕ) (xs ys : List ℕ) → next_after next (xs ++ ys) ≡ next_after (next_after next xs) ys
next_after-append next [] ys = refl
next_after-append next (x ∷ xs) ys = next_after-append (x + 1) xs ys

list_bytes_from-append : (next : ℕ) (ps qs : List Posting) → list_bytes_from next (ps ++ qs) ≡ list_bytes_from next ps ++ list_bytes_from (next_after next (documents_of ps)) qs
list_bytes_from-append next [] qs = refl
list_bytes_from-append next (p ∷ ps) qs =
    ap (λ (bytes : List ℕ). posting_bytes (p.0 + 1 - next) p ++ bytes) (list_bytes_from-append (p.0 + 1) ps qs)
    ∙ sym (append_assoc (posting_bytes (p.0 + 1 - next) p) (list_bytes_from (p.0 + 1) ps) (list_bytes_from (next_after (p.0 + 1) (documents_of ps)) qs))

are_front : (low top : ℕ) (front back : List Posting) → ArePostings low top (front ++ back) → ArePostings low top front
are_front low top [] back are = record { documents = tt; each = All-nil (IsPosting top) }
are_front low top (p ∷ ps) back are =
    let rest = are_front (p.0 + 1) top ps back (record { documents = are.documents.2; each = All-tail (IsPosting top) p (ps ++ back) are.each }) in
    record {
      documents = (are.documents.0, are.documents.1, rest.documents);
      each = All-cons (IsPosting top) p ps (All-head (IsPosting top) p (ps ++ back) are.each) rest.each;
    }

-- postings behind others begin above the last of those
are_next : (low top : ℕ) (front back : List Posting) → ArePostings low top (front ++ back) → ArePostings (next_after low (documents_of front)) top back
are_next low top front back are = record {
  documents = ascends_next low (documents_of front) (subst (Ascends low top) (map-append (λ (p : Posting). p.0) front back) are.documents);
  each = (postings_behind low top front back are).each;
}
  where
    ascends_next : (low : ℕ) (xs : List ℕ) → Ascends low top (xs ++ documents_of back) → Ascends (next_after low xs) top (documents_of back)
    ascends_next low [] up = up
    ascends_next low (x ∷ xs) up = ascends_next (x + 1) xs up.2

fit_parts : (rows : List DocumentRow) (next : ℕ) (front back : List Posting) → PostingsFit rows next (front ++ back) → PostingsFit rows next front × PostingsFit rows (next_after next (documents_of front)) back
fit_parts rows next [] back fit = (tt, fit)
fit_parts rows next (p ∷ ps) back fit = let later = fit_parts rows (p.0 + 1) ps back fit.1 in ((fit.0, later.0), later.1)

-- The postings are the first of the others, and behind them their bytes are those of the rest.
pub record IsFront (next : ℕ) (front others : List Posting) (left right : List ℕ) : Type 0 where
  pub rest : List Posting
  pub is : others ≡ front ++ rest
  pub behind : left ≡ list_bytes_from (next_after next (documents_of front)) rest ++ right

-- so it is if their bytes are at the front of one text, and they are fewer
pub is_front : (next top : ℕ) (front others : List Posting) (left right : List ℕ) → ArePostings next top front → ArePostings next top others → length front ≤ length others
    → list_bytes_from next front ++ left ≡ list_bytes_from next others ++ right → IsFront next front others left right
is_front next top [] others left right are also few e = record { rest = others; is = refl; behind = e }
is_front next top (p ∷ ps) [] left right are also few e = absurd (omega arith)
is_front next top (p ∷ ps) (q ∷ qs) left right are also few e =
    let split : posting_bytes (p.0 + 1 - next) p ++ (list_bytes_from (p.0 + 1) ps ++ left) ≡ posting_bytes (q.0 + 1 - next) q ++ (list_bytes_from (q.0 + 1) qs ++ right) =
    sym (append_assoc (posting_bytes (p.0 + 1 - next) p) (list_bytes_from (p.0 + 1) ps) left) ∙ e ∙ append_assoc (posting_bytes (q.0 + 1 - next) q) (list_bytes_from (q.0 + 1) qs) right in
    let one = posting_apart next top p q _ _ are.documents.0 also.documents.0 (All-head (IsPosting top) p ps are.each) (All-head (IsPosting top) q qs also.each) split in
    let same : q.0 ≡ p.0 = sym (ap (λ (posting : Posting). posting.0) one.0) in
    let others : list_bytes_from (p.0 + 1) ps ++ left ≡ list_bytes_from (p.0 + 1) qs ++ right = one.1 ∙ ap (λ (d : ℕ). list_bytes_from (d + 1) qs ++ right) same in
    let tail : ArePostings (p.0 + 1) top ps = record { documents = are.documents.2; each = All-tail (IsPosting top) p ps are.each } in
    let tail' : ArePostings (p.0 + 1) top qs = record { documents = subst (λ (d : ℕ). Ascends (d + 1) top (documents_of qs)) same also.documents.2; each = All-tail (IsPosting top) q qs also.each } in
    let more = is_front (p.0 + 1) top ps qs left right tail tail' (omega arith) others in
    record { rest = more.rest; is = ap₂ (λ (x : Posting) (xs : List Posting). x ∷ xs) (sym one.0) more.is; behind = more.behind }

-- postings that fit, one behind another, are given
pub front_all : (heading : Heading) (finished : List DictionaryEntry) (entry : DictionaryEntry) (postings : List Posting) → IsLawfulFront heading finished (Some entry)
    → PostingsFit heading.rows (next_after 0 (documents_of entry.postings)) postings
    → AreDistinct (numbers_of_entries heading.rows (closed finished (Some entry) []) ++ numbers_of_postings heading.rows postings)
    → IsLawfulFront heading finished (Some (extended entry postings))
front_all heading finished entry [] front fit distinct = subst (λ (e : DictionaryEntry). IsLawfulFront heading finished (Some e)) (sym (extended-nil entry)) front
front_all heading finished entry (p ∷ ps) front fit distinct =
    let rows = heading.rows in
    let longer : DictionaryEntry = extended entry (p ∷ []) in
    let before : List ℕ = numbers_of_entries rows (closed finished (Some entry) []) in
    let here : List ℕ = numbers_of_posting rows p in
    let later : List ℕ = numbers_of_postings rows ps in
    let parted : AreDistinct ((before ++ here) ++ later) = subst AreDistinct (sym (append_assoc before here later)) distinct in
    let told : before ++ here ≡ numbers_of_entries rows (closed finished (Some longer) []) =
    ap (λ (ns : List ℕ). before ++ ns) (sym (append-nil here)) ∙ sym (numbers_more rows finished entry (p ∷ [])) ∙ ap (numbers_of_entries rows) (closed-given finished entry p []) in
    let next : p.0 + 1 ≡ next_after 0 (documents_of longer.postings) =
    sym (ap (next_after 0) (map-append (λ (q : Posting). q.0) entry.postings (p ∷ [])) ∙ next_after-append 0 (documents_of entry.postings) (p.0 ∷ [])) in
    let all = front_all heading finished longer ps (front_more heading finished entry p front fit.0 (distinct_front (before ++ here) later parted)) (subst (λ (n : ℕ). PostingsFit rows n ps) next fit.1) (subst (λ (ns : List ℕ). AreDistinct (ns ++ later)) told parted) in
    subst (λ (qs : List Posting). IsLawfulFront heading finished (Some (entry_with entry.term qs))) (append_assoc entry.postings (p ∷ []) ps) all

closed-taken : (finished : List DictionaryEntry) (entry : DictionaryEntry) (front rest : List Posting) → closed finished (Some entry) (front ++ rest) ≡ closed finished (Some (extended entry front)) rest
closed-taken finished entry front rest = ap (λ (ps : List Posting). finished ++ entry_with entry.term ps ∷ []) (sym (append_assoc entry.postings front rest))

-- bytes that are known and were taken are the first of those
consumed : (a b : Option (List ℕ)) (front whole : List ℕ) → Consumes a b front → a ≡ Some whole → (rest : List ℕ) × ((b ≡ Some rest) × (front ++ rest ≡ whole))
consumed None b front whole consumes e = absurd (cc)
consumed (Some xs) None front whole consumes e = absurd consumes
consumed (Some xs) (Some ys) front whole consumes e = (ys, (refl, (let is : xs ≡ whole = cc in sym consumes ∙ is)))

-- ---- the reader

-- A reader takes these postings, which are the first of its list, and some; so many postings are left then, in so many bytes, and
-- these bytes are buffered.
pub record Takes (at : Standing) (front : List Posting) (documents bytes : ℕ) (later : List ℕ) (left behind : Option (List ℕ)) : Type 0 where
  pub here : at.place ≡ AtTerm
  pub few_documents : length at.heading.rows ≤ 2 ^ 28
  pub few_tokens : sum_by (λ row. row.tokens) at.heading.rows ≤ 2 ^ 28
  pub some : 0 < length front
  pub are : ArePostings at.next (2 ^ 32 - 1) front
  pub counted : length front + documents ≡ at.documents
  pub sized : length (list_bytes_from at.next front) + bytes ≡ at.bytes
  pub held : at.checked.held ≡ list_bytes_from at.next front ++ later
  pub taken : Consumes left behind (list_bytes_from at.next front)

-- What is known of a list whose first postings were taken.
record Goes (at there : Standing) (front : List Posting) (numbers : List ℕ) : Type 0 where
  fit : PostingsFit at.heading.rows at.next front
  free : AreDistinct (numbers ++ numbers_of_postings at.heading.rows front)
  told : Told there (numbers ++ numbers_of_postings at.heading.rows front)

module _ {at : Standing} {front : List Posting} {documents bytes : ℕ} {later : List ℕ} {left behind : Option (List ℕ)} (takes : Takes at front documents bytes later left behind) where
  abbrev pub there : Standing
  there = record {
    heading = at.heading;
    place = at.place;
    last = at.last;
    next = next_after at.next (documents_of front);
    documents = documents;
    bytes = bytes;
    checked = record { marks = at.checked.marks; held = later };
  }

  abbrev rows : List DocumentRow
  rows = at.heading.rows

  -- its tokens are among those that were marked
  goes : (numbers : List ℕ) → Told at numbers → Goes at there front numbers
  goes numbers known =
      let lies = known.lies in
      let few = takes.few_documents in
      let short = takes.few_tokens in
      let all = lies.counted in
      let some = takes.counted in
      let first = is_front at.next (2 ^ 32 - 1) front known.postings later known.behind takes.are (fit_are rows (2 ^ 32 - 1) (omega (arith, few)) (omega (arith, short)) at.next known.postings lies.fit) (omega (arith, all, some)) (sym takes.held ∙ lies.spelled) in
      let here : List ℕ = numbers_of_postings rows front in
      let more : List ℕ = numbers_of_postings rows first.rest in
      let fit = fit_parts rows at.next front first.rest (subst (PostingsFit rows at.next) first.is lies.fit) in
      let parts : numbers ++ numbers_of_postings rows known.postings ≡ (numbers ++ here) ++ more =
      ap (λ (ps : List Posting). numbers ++ numbers_of_postings rows ps) first.is ∙ ap (λ (ns : List ℕ). numbers ++ ns) (numbers_of_postings-append rows front first.rest)
      ∙ sym (append_assoc numbers here more) in
      let free : AreDistinct ((numbers ++ here) ++ more) = subst AreDistinct parts lies.free in
      let sizes = lies.sized in
      let size = takes.sized in
      record {
        fit = fit.0;
        free = distinct_front (numbers ++ here) more free;
        told = record {
          postings = first.rest;
          behind = known.behind;
          lies = record {
            fit = fit.1;
            counted = omega (arith, all, some, ap length first.is, length-append front first.rest);
            sized = omega (
              arith,
              sizes,
              size,
              ap (λ (ps : List Posting). length (list_bytes_from at.next ps)) first.is,
              ap length (list_bytes_from-append at.next front first.rest),
              length-append (list_bytes_from at.next front) (list_bytes_from (next_after at.next (documents_of front)) first.rest),
            );
            spelled = first.behind;
            free = free;
          };
          marked = subst (HoldsNumbers at.checked.marks) parts known.marked;
        };
      }

  pub behind_taken : (finished : List DictionaryEntry) (entry : DictionaryEntry) → LieBehind at finished (Some entry) → LieBehind there finished (Some (extended entry front))
  behind_taken finished entry lies =
      let before : List ℕ = numbers_of_entries rows (closed finished (Some entry) []) in
      let start : at.next ≡ next_after 0 (documents_of entry.postings) = lies.next in
      let known = goes before lies.marked in
      let told : before ++ numbers_of_postings rows front ≡ numbers_of_entries rows (closed finished (Some (extended entry front)) []) =
      sym (numbers_more rows finished entry front) ∙ ap (numbers_of_entries rows) (sym (closed-none finished (extended entry front))) in
      record {
        lawful = front_all at.heading finished entry front lies.lawful (subst (λ (n : ℕ). PostingsFit rows n front) start known.fit) known.free;
        of_term = lies.of_term;
        last = lies.last ∙ last_stays finished entry.term (entry.postings ++ []) ((entry.postings ++ front) ++ []);
        next =
            ap (λ (n : ℕ). next_after n (documents_of front)) start
            ∙ sym (ap (next_after 0) (map-append (λ (p : Posting). p.0) entry.postings front) ∙ next_after-append 0 (documents_of entry.postings) (documents_of front));
        posted = λ _. (let some = takes.some in omega (arith, some, length-append entry.postings front));
        marked = subst (Told there) told known.told;
        distinct = subst AreDistinct told known.free;
      }

  -- what may lie ahead of it then lay behind them
  pub ahead_taken : (rest : List Posting) (entries : List DictionaryEntry) → MayLieAhead there behind rest entries → MayLieAhead at left (front ++ rest) entries
  ahead_taken rest entries ahead =
      let parts = list_bytes_from-append at.next front rest in
      record {
        are = record {
          counted = (let counted = ahead.are.counted in let some = takes.counted in omega (arith, counted, some, length-append front rest));
          sized = (let sized = ahead.are.sized in let size = takes.sized in
              omega (arith, sized, size, ap length parts, length-append (list_bytes_from at.next front) (list_bytes_from (next_after at.next (documents_of front)) rest)));
          ended = ahead.are.ended;
        };
        spelled = λ not.
            subst (λ (list : List ℕ). IfSome left (λ bytes. bytes ≡ bytes_ahead list entries)) (sym parts)
            (spelled_before left behind (list_bytes_from at.next front) (list_bytes_from (next_after at.next (documents_of front)) rest) entries takes.taken (ahead.spelled not));
        whole = whole;
      }
    where
      whole : (finished : List DictionaryEntry) (at_hand : Option DictionaryEntry) → LieBehind at finished at_hand → AreWhole at.heading (closed finished at_hand (front ++ rest) ++ entries)
      whole finished None lies = no_entry at.place at.last takes.here lies.of_term
      whole finished (Some entry) lies =
          subst (AreWhole at.heading) (ap (λ (es : List DictionaryEntry). es ++ entries) (sym (closed-taken finished entry front rest)))
          (ahead.whole finished (Some (extended entry front)) (behind_taken finished entry lies))

  -- where a lawful dictionary lay ahead, they are the first of its postings, and the rest lies ahead
  pub faces_taken : (others : List Posting) (entries : List DictionaryEntry) → LieAhead at left others entries → (rest : List Posting) × ((others ≡ front ++ rest) × LieAhead there behind rest entries)
  faces_taken others entries ahead = by ahead.finished ahead.at_hand ahead.behind ahead.whole
    where
      by : (finished : List DictionaryEntry) (at_hand : Option DictionaryEntry) → LieBehind at finished at_hand → AreWhole at.heading (closed finished at_hand others ++ entries)
          → (rest : List Posting) × ((others ≡ front ++ rest) × LieAhead there behind rest entries)
      by finished None lies whole = no_entry at.place at.last takes.here lies.of_term
      by finished (Some entry) lies whole =
          let tail : List ℕ = flat_map term_bytes entries ++ 128 ∷ [] in
          let all = ahead.are.counted in
          let some = takes.counted in
          let sizes = ahead.are.sized in
          let size = takes.sized in
          let longer : DictionaryEntry = extended entry others in
          let low : ArePostings 0 (2 ^ 32 - 1) (entry.postings ++ others) =
          All-contains (λ (e : DictionaryEntry). ArePostings 0 (2 ^ 32 - 1) e.postings) ((finished ++ longer ∷ []) ++ entries) longer (codable at.heading ((finished ++ longer ∷ []) ++ entries) whole)
          (Contains-append_left (finished ++ longer ∷ []) entries longer (Contains-push finished longer)) in
          let are : ArePostings at.next (2 ^ 32 - 1) others = subst (λ (n : ℕ). ArePostings n (2 ^ 32 - 1) others) (sym lies.next) (are_next 0 (2 ^ 32 - 1) entry.postings others low) in
          let known = consumed left behind (list_bytes_from at.next front) (list_bytes_from at.next others ++ tail) takes.taken (ahead.spelled (not_ended at.place takes.here)) in
          let first = is_front at.next (2 ^ 32 - 1) front others known.0 tail takes.are are (omega (arith, all, some)) known.1.1 in (
            first.rest,
            (
              first.is,
              record {
                finished = finished;
                at_hand = Some (extended entry front);
                behind = behind_taken finished entry lies;
                are = record {
                  counted = omega (arith, all, some, ap length first.is, length-append front first.rest);
                  sized = omega (
                    arith,
                    sizes,
                    size,
                    ap (λ (ps : List Posting). length (list_bytes_from at.next ps)) first.is,
                    ap length (list_bytes_from-append at.next front first.rest),
                    length-append (list_bytes_from at.next front) (list_bytes_from (next_after at.next (documents_of front)) first.rest),
                  );
                  ended = ahead.are.ended;
                };
                whole =
                    subst (AreWhole at.heading) (ap (λ (es : List DictionaryEntry). es ++ entries) (closed-taken finished entry front first.rest))
                    (subst (λ (ps : List Posting). AreWhole at.heading (closed finished (Some entry) ps ++ entries)) first.is whole);
                going = ahead.going;
                spelled = λ not. known.1.0 ∙ ap (λ (bytes : List ℕ). Some bytes) first.behind;
              },
            ),
          )

module _ {R : Type 0} (reader : RunReader R) where
  abbrev held : List ℕ
  held = bytes_held reader.input

  -- so many bytes has its list
  pub list_size : length (list_bytes_from reader.next (postings_ahead reader)) ≡ reader.bytes
  list_size = ap length (sym reader.left.are.coded) ∙ length-take-le reader.bytes held reader.held

  pub documents_ahead : length (postings_ahead reader) ≡ reader.documents
  documents_ahead = reader.left.are.counted

  -- none has a list without postings
  pub none_ahead : reader.documents ≡ 0 → reader.bytes ≡ 0
  none_ahead none = by (postings_ahead reader) list_size documents_ahead
    where
      by : (postings : List Posting) → length (list_bytes_from reader.next postings) ≡ reader.bytes → length postings ≡ reader.documents → reader.bytes ≡ 0
      by [] size count = sym size
      by (p ∷ ps) size count = absurd (omega (arith, count, none))

  -- a reader that takes some of the postings that are left
  pub takes_front : (remaining : R → Option (List ℕ)) (front rest : List Posting) (documents bytes : ℕ) (input : Input R) → 0 < length front → postings_ahead reader ≡ front ++ rest → length rest ≡ documents
      → length (list_bytes_from (next_after reader.next (documents_of front)) rest) ≡ bytes → Consumes (known_left remaining reader.input) (known_left remaining input) (take (reader.bytes - bytes) held) → bytes_held input ≡ drop (reader.bytes - bytes) held
      → Takes (standing reader) front documents bytes (bytes_held input) (known_left remaining reader.input) (known_left remaining input)
  takes_front remaining front rest documents bytes input some is count size consumes stays =
      let one : List ℕ = list_bytes_from reader.next front in
      let others : List ℕ = list_bytes_from (next_after reader.next (documents_of front)) rest in
      let parts : list_bytes_from reader.next (postings_ahead reader) ≡ one ++ others = ap (list_bytes_from reader.next) is ∙ list_bytes_from-append reader.next front rest in
      let sizes : length one + bytes ≡ reader.bytes = omega (arith, list_size, ap length parts, length-append one others, size) in
      let taken : reader.bytes - bytes ≡ length one = omega (arith, sizes) in
      let within : length one ≤ reader.bytes = omega (arith, sizes) in
      let is_one : take (length one) held ≡ one = sym (take-take (length one) reader.bytes held within) ∙ ap (take (length one)) (reader.left.are.coded ∙ parts) ∙ take-append_seam one others in
      let all = documents_ahead in
      let many : length front + documents ≡ reader.documents = omega (arith, all, ap length is, length-append front rest, count) in
      let some_left : 0 < reader.documents = omega (arith, all, ap length is, length-append front rest, some) in
      record {
        here = term_at_hand reader.place reader.documents reader.drained some_left;
        few_documents = reader.few_documents;
        few_tokens = reader.few_tokens;
        some = some;
        are = are_front reader.next (2 ^ 32 - 1) front rest (subst (ArePostings reader.next (2 ^ 32 - 1)) is reader.left.are.are);
        counted = many;
        sized = sizes;
        held = sym (take-append-drop (length one) held) ∙ ap₂ (λ (xs ys : List ℕ). xs ++ ys) is_one (ap (λ (n : ℕ). drop n held) (sym taken) ∙ sym stays);
        taken = subst (Consumes (known_left remaining reader.input) (known_left remaining input)) (ap (λ (n : ℕ). take n held) taken ∙ is_one) consumes;
      }

  -- what its list is, if it was checked
  pub low_ahead : (numbers : List ℕ) → Told (standing reader) numbers → ArePostings reader.next (2 ^ 28) (postings_ahead reader)
  low_ahead numbers known =
      let rows = (heading_of reader.head).rows in
      let few = reader.few_documents in
      let short = reader.few_tokens in
      let count = known.lies.counted in
      let all = documents_ahead in
      let first =
      is_front reader.next (2 ^ 32 - 1) (postings_ahead reader) known.postings (drop reader.bytes held) known.behind reader.left.are.are
      (fit_are rows (2 ^ 32 - 1) (omega (arith, few)) (omega (arith, short)) reader.next known.postings known.lies.fit) (omega (arith, all, count))
      (ap (λ (xs : List ℕ). xs ++ drop reader.bytes held) (sym reader.left.are.coded) ∙ take-append-drop reader.bytes held ∙ known.lies.spelled) in
      are_front reader.next (2 ^ 28) (postings_ahead reader) first.rest (subst (ArePostings reader.next (2 ^ 28)) first.is (fit_are rows (2 ^ 28) few short reader.next known.postings known.lies.fit))
