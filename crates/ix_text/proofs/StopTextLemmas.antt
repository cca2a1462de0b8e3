-- Stop texts: the lines that a text is cut into, what is read of them, and the fault of one.
use Rattle.std.proofs.Common.{◌≡◌, ℕ, zero, suc, ◌+◌, ◌^◌, ◌==◌, Bool, true, false, cond, Some, None, lit<, ◌<◌, ◌≤◌, ◌↔◌, ◌⊎◌, inl, inr, List, [], ◌∷◌, ◌++◌, map, length, flat_map, All, Contains, refl, sym, ap, ap₂, subst, ◌∙◌, arith, eqb-true, eq-eqb, append_assoc, length-append}
use Rattle.std.proofs.lemmas.Grind.{flat_map-append}
use Rattle.std.proofs.lemmas.Str.Pattern.{IsSplitOnceResult, split_parts}
use Rattle.std.proofs.lemmas.List.{get_or_default, map-append}
use Rattle.std.proofs.lemmas.List.Elements.{All-nil, All-cons, All-head, All-tail, All-push, All-append, All-weaker, All-contains, All-contains_itself}
use Rattle.std.proofs.lemmas.Bool.{cases_Bool, cond-true, cond-false, false_from_ne_true, and_parts, ltb-true, leb-true}
use Rattle.std.specs.Bool.{IsTrue}
use denote.Ref.{Bor}
use Rattle.unicode_segmentation.proofs.Computing.{unicode_segmentation}
use Rattle.unicode_segmentation.specs.Word.{words}
use Rattle.ix_text.specs.ByteOrder.{IsAscending}
use Rattle.ix_text.specs.declared.stop.StopError.{StopError}
use Rattle.ix_text.specs.declared.stop.StopError.TheVariants.{NotOneWord, LongWord, Memory, TooLarge}
use Rattle.ix_text.specs.StopFaults.{IsStopLine, IsStopLineFault, HasStopLineFault, IsStopFault}
use Rattle.ix_text.specs.StopSets.{HasTermSize}
use Rattle.ix_text.specs.StopText.{joined_lines, IsCutAtLineFeeds, IsStopWord, stop_terms_of, IsStopText}
use Rattle.ix_text.specs.Terms.{term_of_word}
use Rattle.ix_text.specs.TokenLists.{is_term_size}

-- ---- the stop terms of lines

pub words-nil : words [] ≡ []
unfolding unicode_segmentation
words-nil = refl

pub stop_terms_of-nil : stop_terms_of [] ≡ []
unfolding stop_terms_of
stop_terms_of-nil = refl

pub stop_terms_of-append : (xs ys : List (List ℕ)) → stop_terms_of (xs ++ ys) ≡ stop_terms_of xs ++ stop_terms_of ys
unfolding stop_terms_of
stop_terms_of-append xs ys =
    ap (map term_of_word) (flat_map-append words xs ys) ∙ map-append term_of_word (flat_map words xs) (flat_map words ys)

pub stop_terms_of-empty_line : (line : List ℕ) → line ≡ [] → stop_terms_of (line ∷ []) ≡ []
unfolding stop_terms_of
stop_terms_of-empty_line line empty = ap (λ l. map term_of_word (words l ++ [])) empty ∙ ap (λ l. map term_of_word (l ++ [])) words-nil

pub stop_terms_of-word : (line word : List ℕ) → words line ≡ word ∷ [] → stop_terms_of (line ∷ []) ≡ term_of_word word ∷ []
unfolding stop_terms_of
stop_terms_of-word line word only = ap (λ l. map term_of_word (l ++ [])) only

has_term_size : (term : List ℕ) → IsTrue (is_term_size term) → HasTermSize term
has_term_size term size =
    let parts = and_parts _ _ size in record { some_byte = ltb-true 0 (length term) parts.0; short = leb-true (length term) 255 parts.1 }

-- a line gives at most one term, which has a lawful size, and an empty one none
pub line_terms_few : (line : List ℕ) → IsStopLine line → length (stop_terms_of (line ∷ [])) ≤ length line
line_terms_few line (inl empty) = omega (arith, ap length (stop_terms_of-empty_line line empty))
line_terms_few line (inr word) = omega (arith, ap length (stop_terms_of-word line word.word word.only), some_byte line word)
  where
    some_byte : (line : List ℕ) → IsStopWord line → 0 < length line
    some_byte [] word = let clash = sym words-nil ∙ word.only in cc
    some_byte (b ∷ bs) word = omega arith

line_terms_sizes : (line : List ℕ) → IsStopLine line → All HasTermSize (stop_terms_of (line ∷ []))
line_terms_sizes line (inl empty) = subst (All HasTermSize) (sym (stop_terms_of-empty_line line empty)) (All-nil HasTermSize)
line_terms_sizes line (inr word) =
    subst (All HasTermSize) (sym (stop_terms_of-word line word.word word.only))
    (All-cons HasTermSize (term_of_word word.word) [] (has_term_size (term_of_word word.word) word.size) (All-nil HasTermSize))

pub terms_sizes : (lines : List (List ℕ)) → All IsStopLine lines → All HasTermSize (stop_terms_of lines)
terms_sizes [] read = subst (All HasTermSize) (sym stop_terms_of-nil) (All-nil HasTermSize)
terms_sizes (line ∷ lines) read =
    subst (All HasTermSize) (sym (stop_terms_of-append (line ∷ []) lines))
    (All-append HasTermSize (stop_terms_of (line ∷ [])) (stop_terms_of lines) (line_terms_sizes line (All-head IsStopLine line lines read)) (terms_sizes lines (All-tail IsStopLine line lines read)))

-- what holds of each element of one list holds of one with the same elements
pub All-same_elements : (P : List ℕ → Type 0) (xs ys : List (List ℕ)) → ((x : List ℕ) → Contains ys x ↔ Contains xs x) → All P xs → All P ys
All-same_elements P xs ys same all = All-weaker (Contains ys) P (λ y has. All-contains P xs y all ((same y).0 has)) ys (All-contains_itself ys)

-- ---- the lines of a text

abbrev pub IsUnbroken : List ℕ → Type 0
IsUnbroken line = ¬ (Contains line 10)

-- the lines, each with its LF
unfoldable pub ended : List (List ℕ) → List ℕ
ended [] = []
ended (line ∷ lines) = line ++ 10 ∷ ended lines

ended-push : (lines : List (List ℕ)) (line : List ℕ) → ended (lines ++ line ∷ []) ≡ ended lines ++ (line ++ 10 ∷ [])
unfolding ended
ended-push [] line = refl
ended-push (first ∷ lines) line =
    ap (λ l. first ++ 10 ∷ l) (ended-push lines line) ∙ sym (append_assoc first (10 ∷ ended lines) (line ++ 10 ∷ []))

joined-append : (lines : List (List ℕ)) (line : List ℕ) (more : List (List ℕ)) → joined_lines (lines ++ line ∷ more) ≡ ended lines ++ joined_lines (line ∷ more)
unfolding ended
joined-append [] line more = refl
joined-append (first ∷ []) line more = sym (append_assoc first (10 ∷ []) (joined_lines (line ∷ more)))
joined-append (first ∷ next ∷ lines) line more =
    ap (λ l. first ++ 10 ∷ l) (joined-append (next ∷ lines) line more)
    ∙ sym (append_assoc first (10 ∷ ended (next ∷ lines)) (joined_lines (line ∷ more)))

-- a character goes to the front of the first line
unfoldable pub put_front : ℕ → List (List ℕ) → List (List ℕ)
put_front b [] = (b ∷ []) ∷ []
put_front b (line ∷ lines) = (b ∷ line) ∷ lines

-- the text cut at every LF, of which there is one way with a line at least
unfoldable pub lines_of : List ℕ → List (List ℕ)
lines_of [] = [] ∷ []
lines_of (b ∷ bs) = let rest = lines_of bs in cond (b == 10) ([] ∷ rest) (put_front b rest)

pub lines_of-nil : lines_of [] ≡ [] ∷ []
unfolding lines_of
lines_of-nil = refl

some_lines : (text : List ℕ) → 0 < length (lines_of text)
unfolding lines_of put_front
some_lines [] = omega arith
some_lines (b ∷ bs) = by (b == 10) (lines_of bs)
  where
    by : (feed : Bool) (lines : List (List ℕ)) → 0 < length (cond feed ([] ∷ lines) (put_front b lines))
    by true lines = omega arith
    by false [] = omega arith
    by false (line ∷ lines) = omega arith

joined-cons : (line : List ℕ) (lines : List (List ℕ)) → 0 < length lines → joined_lines (line ∷ lines) ≡ line ++ 10 ∷ joined_lines lines
joined-cons line [] some = absurd (omega arith)
joined-cons line (next ∷ lines) some = refl

joined-put_front : (b : ℕ) (lines : List (List ℕ)) → joined_lines (put_front b lines) ≡ b ∷ joined_lines lines
unfolding put_front
joined-put_front b [] = refl
joined-put_front b (line ∷ []) = refl
joined-put_front b (line ∷ next ∷ lines) = refl

Contains-tail : (b : ℕ) (line : List ℕ) → Contains line 10 → Contains (b ∷ line) 10
Contains-tail b line (k, low, is) = (suc k, omega arith, is)

not_first : (b : ℕ) (line : List ℕ) → ¬ (Contains (b ∷ line) 10) → (b == 10) ≡ false
not_first b line none = false_from_ne_true _ (λ feed. none (0, omega arith, eqb-true b 10 feed))

none_after : (b : ℕ) (line : List ℕ) → (b == 10) ≡ false → ¬ (Contains line 10) → ¬ (Contains (b ∷ line) 10)
none_after b line other none (zero, low, is) = let feed = eq-eqb b 10 is in cc
none_after b line other none (suc k, low, is) = none (k, omega arith, is)

joined-lines_of : (text : List ℕ) → joined_lines (lines_of text) ≡ text
unfolding lines_of
joined-lines_of [] = refl
joined-lines_of (b ∷ bs) =
    elim (cases_Bool (b == 10)) [
      | inl feed ↦
          ap joined_lines (cond-true _ _ _ feed) ∙ joined-cons [] (lines_of bs) (some_lines bs)
          ∙ ap₂ (λ c l. c ∷ l) (sym (eqb-true b 10 feed)) (joined-lines_of bs)
      | inr other ↦
          ap joined_lines (cond-false _ _ _ other) ∙ joined-put_front b (lines_of bs) ∙ ap (λ l. b ∷ l) (joined-lines_of bs)
    ]

unbroken-put_front : (b : ℕ) (lines : List (List ℕ)) → (b == 10) ≡ false → All IsUnbroken lines → All IsUnbroken (put_front b lines)
unfolding put_front
unbroken-put_front b [] other all = All-cons IsUnbroken (b ∷ []) [] (none_after b [] other (λ (k, low, is). omega arith)) all
unbroken-put_front b (line ∷ lines) other all =
    All-cons IsUnbroken (b ∷ line) lines (none_after b line other (All-head IsUnbroken line lines all)) (All-tail IsUnbroken line lines all)

unbroken-lines_of : (text : List ℕ) → All IsUnbroken (lines_of text)
unfolding lines_of
unbroken-lines_of [] = All-cons IsUnbroken [] [] (λ (k, low, is). omega arith) (All-nil IsUnbroken)
unbroken-lines_of (b ∷ bs) =
    elim (cases_Bool (b == 10)) [
      | inl feed ↦
          subst (All IsUnbroken) (sym (cond-true _ _ _ feed)) (All-cons IsUnbroken [] (lines_of bs) (λ (k, low, is). omega arith) (unbroken-lines_of bs))
      | inr other ↦ subst (All IsUnbroken) (sym (cond-false _ _ _ other)) (unbroken-put_front b (lines_of bs) other (unbroken-lines_of bs))
    ]

-- each text can be cut
pub cut_at_line_feeds : (text : List ℕ) → IsCutAtLineFeeds text (lines_of text)
cut_at_line_feeds text = record { joined = sym (joined-lines_of text); unbroken = unbroken-lines_of text }

lines_of-line : (line text : List ℕ) → ¬ (Contains line 10) → lines_of (line ++ 10 ∷ text) ≡ line ∷ lines_of text
unfolding lines_of put_front
lines_of-line [] text none = refl
lines_of-line (b ∷ line) text none =
    cond-false _ _ _ (not_first b line none) ∙ ap (put_front b) (lines_of-line line text (λ has. none (Contains-tail b line has)))

lines_of-last : (line : List ℕ) → ¬ (Contains line 10) → lines_of line ≡ line ∷ []
unfolding lines_of put_front
lines_of-last [] none = refl
lines_of-last (b ∷ line) none =
    cond-false _ _ _ (not_first b line none) ∙ ap (put_front b) (lines_of-last line (λ has. none (Contains-tail b line has)))

lines_of-joined : (line : List ℕ) (lines : List (List ℕ)) → All IsUnbroken (line ∷ lines) → lines_of (joined_lines (line ∷ lines)) ≡ line ∷ lines
lines_of-joined line [] all = lines_of-last line (All-head IsUnbroken line [] all)
lines_of-joined line (next ∷ lines) all =
    lines_of-line line (joined_lines (next ∷ lines)) (All-head IsUnbroken line (next ∷ lines) all)
    ∙ ap (λ l. line ∷ l) (lines_of-joined next lines (All-tail IsUnbroken line (next ∷ lines) all))

-- and there is one way
pub cut_is : (text line : List ℕ) (lines : List (List ℕ)) → IsCutAtLineFeeds text (line ∷ lines) → lines_of text ≡ line ∷ lines
cut_is text line lines cut = ap lines_of cut.joined ∙ lines_of-joined line lines cut.unbroken

-- what `split_once` gives at an LF
pub line_before_feed : (left : List ℕ) (line next : Bor (List ℕ)) → IsSplitOnceResult 10 left (Some (line, next)) → (left ≡ line.now ++ 10 ∷ next.now) × ¬ (Contains line.now 10)
line_before_feed left line next h =
    let parts = split_parts 10 left (Some (line, next)) h (lit< tt) in
    (parts.0, λ (k, low, is). parts.1 k low (get_or_default line.now k 0 10 low ∙ is))

pub no_feed_left : (left : List ℕ) → IsSplitOnceResult 10 left None → ¬ (Contains left 10)
no_feed_left left h (k, low, is) = split_parts 10 left None h (lit< tt) k low (get_or_default left k 0 10 low ∙ is)

-- so many lines of the text are read, with these terms, and this is left
pub record IsReadUpTo (text : List ℕ) (number : ℕ) (terms : List (List ℕ)) (left : List ℕ) : Type 0 where
  pub done : List (List ℕ)
  pub joined : text ≡ ended done ++ left
  pub unbroken : All IsUnbroken done
  pub read : All IsStopLine done
  pub numbered : number ≡ length done + 1
  pub terms_are : terms ≡ stop_terms_of done
  pub few : length terms + length left ≤ length text
  pub few_lines : number + length left ≤ length text + 1

pub read_nothing : (text : List ℕ) (terms : List (List ℕ)) → terms ≡ [] → IsReadUpTo text 1 terms text
unfolding ended
read_nothing text terms none =
    record {
      done = [];
      joined = refl;
      unbroken = All-nil IsUnbroken;
      read = All-nil IsStopLine;
      numbered = refl;
      terms_are = none ∙ sym stop_terms_of-nil;
      few = omega (arith, ap length none);
      few_lines = omega arith;
    }

pub read_line_more : (text : List ℕ) (number : ℕ) (terms more : List (List ℕ)) (left line next : List ℕ) → IsReadUpTo text number terms left
    → left ≡ line ++ 10 ∷ next → ¬ (Contains line 10) → IsStopLine line → more ≡ terms ++ stop_terms_of (line ∷ []) → IsReadUpTo text (number + 1) more next
read_line_more text number terms more left line next r is unbroken read added =
    let length_left = ap length is ∙ length-append line (10 ∷ next) in
    let length_more = ap length added ∙ length-append terms (stop_terms_of (line ∷ [])) in
    record {
      done = r.done ++ line ∷ [];
      joined = r.joined ∙ ap (λ l. ended r.done ++ l) (is ∙ sym (append_assoc line (10 ∷ []) next))
          ∙ sym (append_assoc (ended r.done) (line ++ 10 ∷ []) next) ∙ ap (λ l. l ++ next) (sym (ended-push r.done line));
      unbroken = All-push IsUnbroken r.done line r.unbroken unbroken;
      read = All-push IsStopLine r.done line r.read read;
      numbered = omega (arith, r.numbered, length-append r.done (line ∷ []));
      terms_are = added ∙ ap (λ l. l ++ stop_terms_of (line ∷ [])) r.terms_are ∙ sym (stop_terms_of-append r.done (line ∷ []));
      few = omega (arith, r.few, length_left, length_more, line_terms_few line read);
      few_lines = omega (arith, r.few_lines, length_left);
    }

-- all lines are read
pub read_all : (text : List ℕ) (number : ℕ) (terms more : List (List ℕ)) (left : List ℕ) (stop : List (List ℕ)) → length text ≤ 2 ^ 28 → IsReadUpTo text number terms left
    → ¬ (Contains left 10) → IsStopLine left → more ≡ terms ++ stop_terms_of (left ∷ [])
    → IsAscending stop → ((term : List ℕ) → Contains stop term ↔ Contains more term) → IsStopText text stop
read_all text number terms more left stop short r unbroken read added ascending same =
    let lines = r.done ++ left ∷ [] in
    let all_terms = added ∙ ap (λ l. l ++ stop_terms_of (left ∷ [])) r.terms_are ∙ sym (stop_terms_of-append r.done (left ∷ [])) in
    record {
      short = short;
      lines = lines;
      cut = record { joined = r.joined ∙ sym (joined-append r.done left []); unbroken = All-push IsUnbroken r.done left r.unbroken unbroken };
      read = All-push IsStopLine r.done left r.read read;
      ascending = ascending;
      terms = λ term. subst (λ (l : List (List ℕ)). Contains stop term ↔ Contains l term) all_terms (same term);
    }

-- what the stop list is made of meets its condition
pub few_terms : (text : List ℕ) (number : ℕ) (terms more : List (List ℕ)) (left : List ℕ) → IsReadUpTo text number terms left → IsStopLine left
    → more ≡ terms ++ stop_terms_of (left ∷ []) → length more ≤ length text
few_terms text number terms more left r read added =
    omega (arith, r.few, ap length added ∙ length-append terms (stop_terms_of (left ∷ [])), line_terms_few left read)

pub sizes_of_terms : (text : List ℕ) (number : ℕ) (terms more : List (List ℕ)) (left : List ℕ) → IsReadUpTo text number terms left → IsStopLine left
    → more ≡ terms ++ stop_terms_of (left ∷ []) → All HasTermSize more
sizes_of_terms text number terms more left r read added =
    subst (All HasTermSize) (sym (added ∙ ap (λ l. l ++ stop_terms_of (left ∷ [])) r.terms_are))
    (All-append HasTermSize (stop_terms_of r.done) (stop_terms_of (left ∷ [])) (terms_sizes r.done r.read) (line_terms_sizes left read))

-- the fault of the first line that is left is the fault of the text
fault_of_text : (text left : List ℕ) (number : ℕ) (terms : List (List ℕ)) (line : List ℕ) (after : List (List ℕ)) (fault : StopError) → length text ≤ 2 ^ 28 → IsReadUpTo text number terms left
    → left ≡ joined_lines (line ∷ after) → All IsUnbroken (line ∷ after) → IsStopLineFault line number fault → HasStopLineFault text fault
fault_of_text text left number terms line after fault short r is unbroken of_line =
    record {
      short = short;
      before = r.done;
      line = line;
      after = after;
      cut = record {
        joined = r.joined ∙ ap (λ l. ended r.done ++ l) is ∙ sym (joined-append r.done line after);
        unbroken = All-append IsUnbroken r.done (line ∷ after) r.unbroken unbroken;
      };
      earlier = r.read;
      fault_of_line = subst (λ (n : ℕ). IsStopLineFault line n fault) r.numbered of_line;
    }

as_fault : (text line : List ℕ) (number : ℕ) (fault : StopError) → IsStopLineFault line number fault → HasStopLineFault text fault → IsStopFault text fault
as_fault text line number (NotOneWord at) of_line whole = whole
as_fault text line number (LongWord at) of_line whole = whole
as_fault text line number Memory of_line whole = of_line
as_fault text line number TooLarge of_line whole = absurd of_line

pub fault_from_line : (text : List ℕ) (number : ℕ) (terms : List (List ℕ)) (left line next : List ℕ) (fault : StopError) → length text ≤ 2 ^ 28 → IsReadUpTo text number terms left
    → left ≡ line ++ 10 ∷ next → ¬ (Contains line 10) → IsStopLineFault line number fault → IsStopFault text fault
fault_from_line text number terms left line next fault short r is unbroken of_line =
    let joined = is ∙ ap (λ l. line ++ 10 ∷ l) (sym (joined-lines_of next)) ∙ sym (joined-cons line (lines_of next) (some_lines next)) in
    as_fault text line number fault of_line
    (fault_of_text text left number terms line (lines_of next) fault short r joined (All-cons IsUnbroken line (lines_of next) unbroken (unbroken-lines_of next)) of_line)

pub fault_from_last : (text : List ℕ) (number : ℕ) (terms : List (List ℕ)) (left : List ℕ) (fault : StopError) → length text ≤ 2 ^ 28 → IsReadUpTo text number terms left
    → ¬ (Contains left 10) → IsStopLineFault left number fault → IsStopFault text fault
fault_from_last text number terms left fault short r unbroken of_line =
    as_fault text left number fault of_line
    (fault_of_text text left number terms left [] fault short r refl (All-cons IsUnbroken left [] unbroken (All-nil IsUnbroken)) of_line)

-- a line's fault, or want of memory, is the text's
pub fault_or_memory : (text line : List ℕ) (number : ℕ) (fault : StopError) → (IsStopLineFault line number fault → IsStopFault text fault) → (fault ≡ Memory) ⊎ IsStopLineFault line number fault → (fault ≡ Memory) ⊎ IsStopFault text fault
fault_or_memory text line number fault f (inl memory) = inl memory
fault_or_memory text line number fault f (inr of_line) = inr (f of_line)
