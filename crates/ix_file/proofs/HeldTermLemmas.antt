-- Terms close together in memory: where each of their texts stands, and that what is held is what is told.
use Rattle.std.proofs.Common.{◌≡◌, ℕ, zero, suc, ◌+◌, ◌-◌, ◌<◌, ◌≤◌, List, [], ◌∷◌, ◌++◌, length, take, drop, get_or, slice_get, slice_range, map, Some, All, IsUtf8, refl, sym, ap, ap₂, subst, ◌∙◌, arith, append_assoc, append-nil, length-append}
use Rattle.std.proofs.lemmas.List.{drop_at, length-map, map_push, take_at}
use Rattle.std.proofs.lemmas.List.Elements.{All-head, All-nil, All-push, All-tail}
use Rattle.std.proofs.lemmas.Option.{get_or_from_slice_get}
use Rattle.std.proofs.lemmas.Str.{IsCharBoundary-at_seam, IsUtf8-append, IsUtf8-nil}
use Rattle.std.specs.Str.{IsCharBoundary}
use Rattle.ix_file.specs.HeldTerms.{HoldTerms, joined, starts_from, terms_told}
use Rattle.ix_file.specs.PlacedTerms.{PlacedTerm, list_place, placed_at, terms_in}
use Rattle.ix_file.specs.declared.open.terms.ListPlace.{ListPlace}

abbrev text_of : PlacedTerm → List ℕ
text_of term = term.term

-- ---- one text more

pub joined-push : (texts : List (List ℕ)) (text : List ℕ) → joined (texts ++ text ∷ []) ≡ joined texts ++ text
joined-push [] text = append-nil text
joined-push (t ∷ texts) text = ap (λ (bs : List ℕ). t ++ bs) (joined-push texts text) ∙ sym (append_assoc t (joined texts) text)

pub starts-push : (place : ℕ) (texts : List (List ℕ)) (text : List ℕ) → starts_from place (texts ++ text ∷ []) ≡ starts_from place texts ++ (place + length (joined texts ++ text)) ∷ []
starts-push place [] text = refl
starts-push place (t ∷ texts) text =
    let rest = starts-push (place + length t) texts text in
    let same : place + length t + length (joined texts ++ text) ≡ place + length ((t ++ joined texts) ++ text) =
    omega (arith, length-append (t ++ joined texts) text, length-append t (joined texts), length-append (joined texts) text) in
    ap (λ (ps : List ℕ). place ∷ ps) (rest ∙ ap (λ (n : ℕ). starts_from (place + length t) texts ++ n ∷ []) same)

-- ---- where a text stands

joined-utf8 : (texts : List (List ℕ)) → All IsUtf8 texts → IsUtf8 (joined texts)
joined-utf8 [] each = IsUtf8-nil
joined-utf8 (t ∷ texts) each = IsUtf8-append t (joined texts) (All-head IsUtf8 t texts each) (joined-utf8 texts (All-tail IsUtf8 t texts each))

-- the text of a place stands between what is before it and what is behind it, and two of the places say where
pub record StandsAt (place : ℕ) (texts : List (List ℕ)) (at : ℕ) : Type 0 where
  pub before : List ℕ
  pub text : List ℕ
  pub after : List ℕ
  pub is : slice_get texts at ≡ Some text
  pub parts : joined texts ≡ before ++ (text ++ after)
  pub start : slice_get (starts_from place texts) at ≡ Some (place + length before)
  pub end : slice_get (starts_from place texts) (at + 1) ≡ Some (place + length before + length text)
  pub utf8 : IsUtf8 text
  pub behind : IsUtf8 after

first_start : (place : ℕ) (texts : List (List ℕ)) → slice_get (starts_from place texts) 0 ≡ Some place
first_start place [] = refl
first_start place (t ∷ texts) = refl

pub stands : (place : ℕ) (texts : List (List ℕ)) (at : ℕ) → All IsUtf8 texts → at < length texts → StandsAt place texts at
stands place [] at each low = absurd (omega arith)
stands place (t ∷ texts) zero each low = record {
  before = [];
  text = t;
  after = joined texts;
  is = refl;
  parts = refl;
  start = ap Some (omega arith);
  end = first_start (place + length t) texts ∙ ap Some (omega arith);
  utf8 = All-head IsUtf8 t texts each;
  behind = joined-utf8 texts (All-tail IsUtf8 t texts each);
}
stands place (t ∷ texts) (suc at) each low =
    let later = stands (place + length t) texts at (All-tail IsUtf8 t texts each) (omega (arith, low)) in
    let next : suc at + 1 ≡ suc (at + 1) = omega arith in
    let moved : place + length t + length later.before ≡ place + length (t ++ later.before) = omega (arith, length-append t later.before) in
    record {
      before = t ++ later.before;
      text = later.text;
      after = later.after;
      is = later.is;
      parts = ap (λ (bs : List ℕ). t ++ bs) later.parts ∙ sym (append_assoc t later.before (later.text ++ later.after));
      start = later.start ∙ ap Some moved;
      end =
          ap (λ (k : ℕ). slice_get (starts_from place (t ∷ texts)) k) next ∙ later.end
          ∙ ap (λ (n : ℕ). Some (n + length later.text)) moved;
      utf8 = later.utf8;
      behind = later.behind;
    }

pub length-starts : (place : ℕ) (texts : List (List ℕ)) → length (starts_from place texts) ≡ length texts + 1
length-starts place [] = refl
length-starts place (t ∷ texts) = omega (arith, length-starts (place + length t) texts)

-- what two neighbouring places say of a text
pub record IsBetween (bytes : List ℕ) (texts : List (List ℕ)) (at from to : ℕ) : Type 0 where
  pub ordered : from ≤ to
  pub start : IsCharBoundary bytes from
  pub end : IsCharBoundary bytes to
  pub is : slice_get texts at ≡ Some (slice_range bytes from to)

pub between : (bytes starts : List ℕ) (texts : List (List ℕ)) (at from to : ℕ) → bytes ≡ joined texts → starts ≡ starts_from 0 texts → All IsUtf8 texts → at < length texts
    → from ≡ get_or starts at from → to ≡ get_or starts (at + 1) to → IsBetween bytes texts at from to
between bytes starts texts at from to all places each low first second =
    let s = stands 0 texts at each low in
    let begins_at : from ≡ 0 + length s.before = first ∙ ap (λ (ps : List ℕ). get_or ps at from) places ∙ get_or_from_slice_get (starts_from 0 texts) at (0 + length s.before) from s.start in
    let ends_at : to ≡ 0 + length s.before + length s.text =
    second ∙ ap (λ (ps : List ℕ). get_or ps (at + 1) to) places ∙ get_or_from_slice_get (starts_from 0 texts) (at + 1) (0 + length s.before + length s.text) to s.end in
    let begins : from ≡ length s.before = omega (arith, begins_at) in
    let ends : to ≡ length s.before + length s.text = omega (arith, ends_at) in
    let parts : bytes ≡ s.before ++ (s.text ++ s.after) = all ∙ s.parts in
    let seam : bytes ≡ (s.before ++ s.text) ++ s.after = parts ∙ sym (append_assoc s.before s.text s.after) in
    let long : length (s.before ++ s.text) ≡ to = length-append s.before s.text ∙ sym ends in
    let behind : drop from bytes ≡ s.text ++ s.after = ap (drop from) parts ∙ drop_at s.before (s.text ++ s.after) from (sym begins) in
    let size : length s.text ≡ to - from = omega (arith, begins, ends) in
    record {
      ordered = omega (arith, begins, ends);
      start = subst (IsCharBoundary bytes) (sym begins) (IsCharBoundary-at_seam bytes s.before (s.text ++ s.after) parts (IsUtf8-append s.text s.after s.utf8 s.behind));
      end = subst (IsCharBoundary bytes) long (IsCharBoundary-at_seam bytes (s.before ++ s.text) s.after seam s.behind);
      is = s.is ∙ ap Some (sym (ap (take (to - from)) behind ∙ take_at s.text s.after (to - from) size));
    }

-- ---- what is held is told

first_place : (place : ℕ) (texts : List (List ℕ)) → get_or (starts_from place texts) 0 0 ≡ place
first_place place [] = refl
first_place place (t ∷ texts) = refl

told : (before : List ℕ) (terms : List PlacedTerm) (bytes : List ℕ) → bytes ≡ before ++ joined (terms_in terms) → terms_told bytes (starts_from (length before) (terms_in terms)) (map list_place terms) ≡ terms
told before [] bytes is = refl
told before (t ∷ terms) bytes is =
    let texts = terms_in terms in
    let from = length before in
    let to = length before + length t.term in
    let second : get_or (starts_from to texts) 0 0 ≡ to = first_place to texts in
    let size : length t.term ≡ to - from = omega arith in
    let behind : drop from bytes ≡ t.term ++ joined texts = ap (drop from) is ∙ drop_at before (t.term ++ joined texts) from refl in
    let text : slice_range bytes from to ≡ t.term = ap (take (to - from)) behind ∙ take_at t.term (joined texts) (to - from) size in
    let moved : bytes ≡ (before ++ t.term) ++ joined texts = is ∙ sym (append_assoc before t.term (joined texts)) in
    let next : to ≡ length (before ++ t.term) = sym (length-append before t.term) in
    ap₂ (λ (bs : List ℕ) (ts : List PlacedTerm). placed_at bs (list_place t) ∷ ts) (ap (slice_range bytes from) second ∙ text)
    (ap (λ (n : ℕ). terms_told bytes (starts_from n texts) (map list_place terms)) next ∙ told (before ++ t.term) terms bytes moved)

pub terms_held : (bytes starts : List ℕ) (places : List ListPlace) (terms : List PlacedTerm) → HoldTerms bytes starts places terms → terms_told bytes starts places ≡ terms
terms_held bytes starts places terms holds =
    ap₂ (λ (ss : List ℕ) (ps : List ListPlace). terms_told bytes ss ps) holds.of_starts holds.of_places ∙ told [] terms bytes holds.of_texts

-- what holds some terms holds those that it tells
pub held_told : (bytes starts : List ℕ) (places : List ListPlace) (terms : List PlacedTerm) → HoldTerms bytes starts places terms → HoldTerms bytes starts places (terms_told bytes starts places)
held_told bytes starts places terms holds = subst (HoldTerms bytes starts places) (sym (terms_held bytes starts places terms holds)) holds

-- ---- no terms, and one more

pub none_held : HoldTerms [] (0 ∷ []) [] []
none_held = record { of_texts = refl; of_starts = refl; of_places = refl; each = All-nil IsUtf8 }

pub one_more_held : (bytes starts : List ℕ) (places : List ListPlace) (terms : List PlacedTerm) (text : List ℕ) (place : ListPlace) (longer more : List ℕ) (others : List ListPlace) (size : ℕ) → HoldTerms bytes starts places terms → IsUtf8 text
    → longer ≡ bytes ++ text → size ≡ length longer → more ≡ starts ++ size ∷ [] → others ≡ places ++ place ∷ [] → HoldTerms longer more others (terms ++ placed_at text place ∷ [])
one_more_held bytes starts places terms text place longer more others size holds utf8 appended sized pushed placed =
    let next : terms_in (terms ++ placed_at text place ∷ []) ≡ terms_in terms ++ text ∷ [] = map_push text_of terms (placed_at text place) in
    let whole : longer ≡ joined (terms_in terms) ++ text = appended ∙ ap (λ (bs : List ℕ). bs ++ text) holds.of_texts in
    let ended : size ≡ 0 + length (joined (terms_in terms) ++ text) = omega (arith, sized, ap length whole) in
    record {
      of_texts = whole ∙ sym (joined-push (terms_in terms) text) ∙ ap joined (sym next);
      of_starts =
          pushed ∙ ap₂ (λ (ps : List ℕ) (n : ℕ). ps ++ n ∷ []) holds.of_starts ended ∙ sym (starts-push 0 (terms_in terms) text)
          ∙ ap (starts_from 0) (sym next);
      of_places = placed ∙ ap (λ (ps : List ListPlace). ps ++ place ∷ []) holds.of_places ∙ sym (map_push list_place terms (placed_at text place));
      each = subst (All IsUtf8) (sym next) (All-push IsUtf8 (terms_in terms) text holds.each utf8);
    }

-- ---- what is read of them

-- the places of a text that are held say where it is
held_at : (bytes starts : List ℕ) (places : List ListPlace) (terms : List PlacedTerm) (at from to : ℕ) → HoldTerms bytes starts places terms → at < length terms
    → from ≡ get_or starts at from → to ≡ get_or starts (at + 1) to → IsBetween bytes (terms_in terms) at from to
held_at bytes starts places terms at from to holds low first second =
    between bytes starts (terms_in terms) at from to holds.of_texts holds.of_starts holds.each (omega (arith, low, length-map terms text_of)) first second

-- of the terms that are seen, where the texts are read as one
pub held_text : (bytes starts : List ℕ) (places : List ListPlace) (terms seen : List PlacedTerm) (read : List ℕ) (at from to : ℕ) → HoldTerms bytes starts places terms → terms ≡ seen → read ≡ bytes → at < length seen
    → from ≡ get_or starts at from → to ≡ get_or starts (at + 1) to → IsBetween read (terms_in seen) at from to
held_text bytes starts places terms seen read at from to holds same whole low first second =
    subst (λ (bs : List ℕ). IsBetween bs (terms_in seen) at from to) (sym whole)
    (subst (λ (ts : List PlacedTerm). IsBetween bytes (terms_in ts) at from to) same
    (held_at bytes starts places terms at from to holds (omega (arith, low, ap length same)) first second))

pub length-held_starts : (bytes starts : List ℕ) (places : List ListPlace) (terms : List PlacedTerm) → HoldTerms bytes starts places terms → length starts ≡ length terms + 1
length-held_starts bytes starts places terms holds = omega (arith, ap length holds.of_starts, length-starts 0 (terms_in terms), length-map terms text_of)
