-- Lists of which two places were exchanged.
use Rattle.std.proofs.Common.{◌≡◌, ℕ, ◌<◌, ◌+◌, List, [], ◌∷◌, ◌++◌, Option, Some, inl, inr, length, length-append, get_or, slice_get, sym, ap, ◌∙◌, arith}
use Rattle.std.proofs.Math.Seq.{get_or-append_seam}
use Rattle.std.proofs.lemmas.Bool.{cases_lt}
use Rattle.std.proofs.lemmas.List.{get_or_append_left, get_or_past}
use Rattle.std.proofs.lemmas.List.Edits.{Swapped}
use Rattle.std.proofs.lemmas.Option.{slice_get_within, slice_get-get_or, get_or_from_slice_get}
use Rattle.ix_query.specs.Finding.{ArePlaced}
use Rattle.ix_query.specs.DocStreams.{HasNumber}
use Rattle.ix_query.specs.Streams.{HaveAll}
use Rattle.ix_query.specs.declared.answers.doc_stream.DocStream.{DocStream}
use Rattle.ix_query.proofs.PartLemmas.{IsMeetOf}
use Rattle.ix_text.specs.Parts.{Parts, Posting}

-- the second list is the first with two of its places exchanged
pub record AreSwapped {X : Type 0} (xs ys : List X) (a b : ℕ) : Type 0 where
  pub long : length ys ≡ length xs
  pub first : a < length xs
  pub second : b < length xs
  pub each : (d : X) → Swapped (λ i. get_or xs i d) (λ i. get_or ys i d) a b

-- what stands at a place was taken out, and the last one moved there: with what was taken at the end, the two are exchanged
pub removed_of : {X : Type 0} (xs ys : List X) (i last : ℕ) (x : X) → i < length xs → length xs ≡ last + 1 → length ys ≡ last → x ≡ get_or xs i x
    → ((d : X) → i < last → get_or ys i d ≡ get_or xs last d)
    → ((k : ℕ) (d : X) → ¬ (k ≡ i) → k < last → get_or ys k d ≡ get_or xs k d)
    → AreSwapped xs (ys ++ x ∷ []) i last
removed_of {X} xs ys i last x within long short is moved stay = record {
  long = omega (arith, long, short, length-append ys (x ∷ []));
  first = within;
  second = omega (arith, long);
  each = λ d. (there d, end d, λ k na nb. beside k d na nb);
}
  where
    seam : (k : ℕ) (d : X) → k ≡ length ys → get_or (ys ++ x ∷ []) k d ≡ x
    seam k d here = ap (λ (j : ℕ). get_or (ys ++ x ∷ []) j d) here ∙ get_or-append_seam ys x [] d

    taken : (d : X) → get_or xs i d ≡ x
    taken d = get_or_from_slice_get xs i (get_or xs i x) d (slice_get-get_or xs i x within) ∙ sym is

    there : (d : X) → get_or (ys ++ x ∷ []) i d ≡ get_or xs last d
    there d = elim (cases_lt i last) [
      | inl below ↦ get_or_append_left ys (x ∷ []) d i (omega (arith, below, short)) ∙ moved d below
      | inr from ↦ seam i d (omega (arith, from, within, long, short)) ∙ sym (taken d) ∙ ap (λ (j : ℕ). get_or xs j d) (omega (arith, from, within, long))
    ]

    end : (d : X) → get_or (ys ++ x ∷ []) last d ≡ get_or xs i d
    end d = seam last d (sym short) ∙ sym (taken d)

    beside : (k : ℕ) (d : X) → ¬ (k ≡ i) → ¬ (k ≡ last) → get_or (ys ++ x ∷ []) k d ≡ get_or xs k d
    beside k d na nb = elim (cases_lt k last) [
      | inl below ↦ get_or_append_left ys (x ∷ []) d k (omega (arith, below, short)) ∙ stay k d na below
      | inr from ↦ elim (cases_lt k (length xs)) [
        | inl low ↦ absurd (nb (omega (arith, from, low, long)))
        | inr past ↦ get_or_past (ys ++ x ∷ []) k d (omega (arith, past, long, short, length-append ys (x ∷ []))) ∙ sym (get_or_past xs k d past)
      ]
    ]

pub swapped_back : {X : Type 0} (xs ys : List X) (a b : ℕ) → AreSwapped xs ys a b → AreSwapped ys xs a b
swapped_back xs ys a b swapped = record {
  long = sym swapped.long;
  first = let l = swapped.long in let f = swapped.first in omega arith;
  second = let l = swapped.long in let f = swapped.second in omega arith;
  each = λ d. let (p, q, r) = swapped.each d in (sym q, sym p, λ m na nb. sym (r m na nb));
}

same_at : {X : Type 0} (xs ys : List X) (k m : ℕ) (x : X) → m < length xs → get_or ys k x ≡ get_or xs m x → slice_get ys k ≡ Some x → slice_get xs m ≡ Some x
same_at {X} xs ys k m x within same at = slice_get-get_or xs m x within ∙ ap (λ (z : X). Some z) (sym same ∙ get_or_from_slice_get ys k x x at)

-- what stands at one place of two lists stood at one place of both
pub moved : {X Y : Type 0} (xs ys : List X) (us vs : List Y) (a b : ℕ) → AreSwapped xs ys a b → AreSwapped us vs a b → (k : ℕ) (x : X) (u : Y) → slice_get ys k ≡ Some x → slice_get vs k ≡ Some u → (m : ℕ) × (slice_get xs m ≡ Some x) × (slice_get us m ≡ Some u)
moved {X} {Y} xs ys us vs a b one two k x u at at_other = elim (cases_lt k a) [
  | inl below ↦ beside_first (λ same. let e = same in omega arith)
  | inr from ↦ elim (cases_lt a k) [
    | inl above ↦ beside_first (λ same. let e = same in omega arith)
    | inr upto ↦
        let here : k ≡ a = omega arith in
        let (p, _, _) = one.each x in
        let (q, _, _) = two.each u in
        (b, same_at xs ys k b x one.second (ap (λ (i : ℕ). get_or ys i x) here ∙ p) at, same_at us vs k b u two.second (ap (λ (i : ℕ). get_or vs i u) here ∙ q) at_other)
  ]
]
  where
    beside : ¬ (k ≡ a) → ¬ (k ≡ b) → (m : ℕ) × (slice_get xs m ≡ Some x) × (slice_get us m ≡ Some u)
    beside na nb =
        let (_, _, p) = one.each x in
        let (_, _, q) = two.each u in
        let within = slice_get_within ys k x at in
        let within_other = slice_get_within vs k u at_other in
        let l = one.long in
        let m = two.long in
        (k, same_at xs ys k k x (omega arith) (p k na nb) at, same_at us vs k k u (omega arith) (q k na nb) at_other)

    beside_first : ¬ (k ≡ a) → (m : ℕ) × (slice_get xs m ≡ Some x) × (slice_get us m ≡ Some u)
    beside_first na = elim (cases_lt k b) [
      | inl below ↦ beside na (λ same. let e = same in omega arith)
      | inr from ↦ elim (cases_lt b k) [
        | inl above ↦ beside na (λ same. let e = same in omega arith)
        | inr upto ↦
            let here : k ≡ b = omega arith in
            let (_, p, _) = one.each x in
            let (_, q, _) = two.each u in
            (a, same_at xs ys k a x one.first (ap (λ (i : ℕ). get_or ys i x) here ∙ p) at, same_at us vs k a u two.first (ap (λ (i : ℕ). get_or vs i u) here ∙ q) at_other)
      ]
    ]

-- the terms of a phrase with two of them exchanged
pub placed_swapped : (parts : Parts) (entries : List (Option (List ℕ))) (end : ℕ) (lists news : List (List Posting)) (places others : List ℕ) (a b : ℕ) → AreSwapped lists news a b → AreSwapped places others a b → ArePlaced parts entries end lists places → ArePlaced parts entries end news others
placed_swapped parts entries end lists news places others a b one two placed = record {
  sound = λ k list place at at_place.
      let (m, here, there) = moved lists news places others a b one two k list place at at_place in
      placed.sound m list place here there;
  complete = λ place term below at.
      let (k, list, here, there, of_it) = placed.complete place term below at in
      let (m, new, new_place) = moved news lists others places a b (swapped_back lists news a b one) (swapped_back places others a b two) k list place here there in
      (m, list, new, new_place, of_it);
}

have_swapped : (leaves news : List DocStream) (a b n : ℕ) → AreSwapped leaves news a b → HaveAll HasNumber news n → HaveAll HasNumber leaves n
have_swapped leaves news a b n swapped all k stream at =
    let back = swapped_back leaves news a b swapped in
    let (m, here, _) = moved news leaves news leaves a b back back k stream stream at at in
    all m stream here

-- the parts that are to be present with two of them exchanged
pub meet_swapped : (parts : Parts) (present news absent : List DocStream) (there : ℕ → Type 0) (a b : ℕ) → AreSwapped present news a b → IsMeetOf parts news absent there → IsMeetOf parts present absent there
meet_swapped parts present news absent there a b swapped meet n = (
  λ has.
      let (all, below, lacks) = (meet n).0 has in
      (have_swapped present news a b n swapped all, (λ none. absurd (let e = ap length none in let f = swapped.first in omega arith)), lacks),
  λ (all, below, lacks).
      (meet n).1 (have_swapped news present a b n (swapped_back present news a b swapped) all, (λ none. absurd (let e = ap length none in let f = swapped.first in let l = swapped.long in omega arith)), lacks),
)
