-- Scans without what is gone: there is one, and it goes on with the documents behind.
use Rattle.std.proofs.Common.{◌≡◌, ℕ, zero, suc, ◌+◌, ◌-◌, ◌<◌, ◌≤◌, ◌⊎◌, inl, inr, Bool, true, false, List, [], ◌∷◌, ◌++◌, map, take, length, get_or, refl, sym, ap, ◌∙◌, subst, arith, append_assoc}
use Rattle.std.specs.Prelude.{◌↔◌, cond, Decides, filter, slice_get, Contains}
use Rattle.std.proofs.lemmas.Bool.{cases_lt}
use Rattle.std.proofs.lemmas.List.{append-nil, map_more}
use Rattle.std.proofs.lemmas.List.Elements.{Contains-append_cases, Contains-append_left, Contains-append_right, filter-append}
use Rattle.std.proofs.lemmas.List.Kept.{IsStrictlyIncreasing-filter}
use Rattle.std.proofs.lemmas.Option.{slice_get_within}
use Rattle.ix_text.specs.Collections.{Collection, Document}
use Rattle.ix_query.specs.Tree.{Tree}
use Rattle.ix_query.specs.Scans.{IsScan, SatisfiesAt}
use Rattle.ix_scan.specs.ScansWithout.{IsScanWithout, LeavesOut, kept_from, of_documents}
use Rattle.ix_scan.proofs.Members.{in_filtered, filtered_has, in_shifted, shifted_has, shifted_increasing, increasing_joined, same_members}

-- ---- one scan

pub one_scan_without : (collection : Collection) (gone : ℕ → Type 0) (query : Tree) (numbers others : List ℕ) → IsScanWithout collection gone query numbers → IsScanWithout collection gone query others → numbers ≡ others
one_scan_without collection gone query numbers others a b =
    same_members numbers others a.ascending b.ascending (λ n h. (b.exact n).1 ((a.exact n).0 h)) (λ n h. (a.exact n).1 ((b.exact n).0 h))

pub whole_scan : (collection : Collection) (gone : ℕ → Type 0) (query : Tree) (numbers : List ℕ) → ((n : ℕ) → ¬ (gone n)) → IsScanWithout collection gone query numbers ↔ IsScan collection query numbers
whole_scan collection gone query numbers none = (
  (λ scan. record { ascending = scan.ascending; exact = λ n. ((λ h. ((scan.exact n).0 h).0), (λ h. (scan.exact n).1 (h, none n))) }),
  (λ scan. record { ascending = scan.ascending; exact = λ n. ((λ h. ((scan.exact n).0 h, none n)), (λ h. (scan.exact n).1 h.0)) }),
)

-- the same numbers are gone
pub scan_of_same : (collection : Collection) (gone other : ℕ → Type 0) (query : Tree) (numbers : List ℕ) → ((n : ℕ) → gone n ↔ other n) → IsScanWithout collection gone query numbers → IsScanWithout collection other query numbers
scan_of_same collection gone other query numbers same scan = record {
  ascending = scan.ascending;
  exact = λ n. (
    (λ h. let r = (scan.exact n).0 h in (r.0, λ g. r.1 ((same n).1 g))),
    (λ h. (scan.exact n).1 (h.0, λ g. h.1 ((same n).0 g))),
  );
}

-- ---- documents behind documents

slice_get_left : {A : Type 0} (xs ys : List A) (k : ℕ) → k < length xs → slice_get (xs ++ ys) k ≡ slice_get xs k
slice_get_left [] ys k within = absurd (omega (arith, within))
slice_get_left (x ∷ xs) ys zero within = refl
slice_get_left (x ∷ xs) ys (suc k) within = slice_get_left xs ys k (omega (arith, within))

slice_get_right : {A : Type 0} (xs ys : List A) (n k : ℕ) → n ≡ length xs + k → slice_get (xs ++ ys) n ≡ slice_get ys k
slice_get_right [] ys n k at = ap (slice_get ys) (at ∙ omega arith)
slice_get_right (x ∷ xs) ys zero k at = absurd (omega (arith, at))
slice_get_right (x ∷ xs) ys (suc n) k at = slice_get_right xs ys n k (omega (arith, at))

module _ (stop : List (List ℕ)) (xs ys : List Document) (query : Tree) where
  below_length : (n : ℕ) → SatisfiesAt (of_documents stop xs) query n → n < length xs
  below_length n h = slice_get_within xs n h.document h.numbered

  satisfied_left : (n : ℕ) → SatisfiesAt (of_documents stop xs) query n → SatisfiesAt (of_documents stop (xs ++ ys)) query n
  satisfied_left n h = record { document = h.document; numbered = slice_get_left xs ys n (below_length n h) ∙ h.numbered; satisfied = h.satisfied }

  satisfied_right : (k : ℕ) → SatisfiesAt (of_documents stop ys) query k → SatisfiesAt (of_documents stop (xs ++ ys)) query (length xs + k)
  satisfied_right k h = record { document = h.document; numbered = slice_get_right xs ys (length xs + k) k refl ∙ h.numbered; satisfied = h.satisfied }

  satisfied_which : (n : ℕ) → SatisfiesAt (of_documents stop (xs ++ ys)) query n → SatisfiesAt (of_documents stop xs) query n ⊎ ((k : ℕ) × (length xs + k ≡ n) × SatisfiesAt (of_documents stop ys) query k)
  satisfied_which n h = elim (cases_lt n (length xs)) [
    | inl before ↦ inl (record { document = h.document; numbered = sym (slice_get_left xs ys n before) ∙ h.numbered; satisfied = h.satisfied })
    | inr behind ↦
        let k = n - length xs in
        let is : length xs + k ≡ n = omega arith in
        inr (k, is, record { document = h.document; numbered = sym (slice_get_right xs ys n k (sym is)) ∙ h.numbered; satisfied = h.satisfied })
  ]

module _ (stop : List (List ℕ)) (xs ys : List Document) (gone : ℕ → Type 0) (test : ℕ → Bool) (query : Tree) (before numbers : List ℕ)
    (leaves : LeavesOut gone test (length xs) (length ys)) (one : IsScanWithout (of_documents stop xs) gone query before) (other : IsScan (of_documents stop ys) query numbers) where
  abbrev shifted : List ℕ
  shifted = map (λ m. length xs + m) numbers

  abbrev later : List ℕ
  later = kept_from test (length xs) numbers

  at_of : (k : ℕ) → Contains numbers k → SatisfiesAt (of_documents stop ys) query k
  at_of k h = (other.exact k).0 h

  later_sound : (n : ℕ) → Contains later n → SatisfiesAt (of_documents stop (xs ++ ys)) query n × ¬ (gone n)
  later_sound n h =
      let kept = in_filtered test shifted n h in
      let from = in_shifted (length xs) numbers n kept.0 in
      let found = at_of from.0 from.1 in (
        subst (λ (m : ℕ). SatisfiesAt (of_documents stop (xs ++ ys)) query m) from.2 (satisfied_right stop xs ys query from.0 found),
        subst (λ (m : ℕ). ¬ (gone m)) from.2 ((leaves from.0 (below_length stop ys [] query from.0 found)).0 (ap test from.2 ∙ kept.1)),
      )

  later_has : (n k : ℕ) → length xs + k ≡ n → SatisfiesAt (of_documents stop ys) query k → ¬ (gone n) → Contains later n
  later_has n k is h there =
      let passes = (leaves k (below_length stop ys [] query k h)).1 (subst (λ (m : ℕ). ¬ (gone m)) (sym is) there) in
      filtered_has test shifted n (ap test (sym is) ∙ passes) (subst (λ (m : ℕ). Contains shifted m) is (shifted_has (length xs) numbers k ((other.exact k).1 h)))

  later_from : (n : ℕ) → Contains later n → length xs ≤ n
  later_from n h =
      let from = in_shifted (length xs) numbers n (in_filtered test shifted n h).0 in
      let is = from.2 in omega arith

  joined_sound : (n : ℕ) → Contains (before ++ later) n → SatisfiesAt (of_documents stop (xs ++ ys)) query n × ¬ (gone n)
  joined_sound n h = elim (Contains-append_cases before later n h) [
    | inl was ↦ let r = (one.exact n).0 was in (satisfied_left stop xs ys query n r.0, r.1)
    | inr new ↦ later_sound n new
  ]

  joined_complete : (n : ℕ) → SatisfiesAt (of_documents stop (xs ++ ys)) query n × ¬ (gone n) → Contains (before ++ later) n
  joined_complete n h = elim (satisfied_which stop xs ys query n h.0) [
    | inl was ↦ Contains-append_left before later n ((one.exact n).1 (was, h.1))
    | inr new ↦ Contains-append_right before later n (later_has n new.0 new.1 new.2 h.1)
  ]

  pub scan_more : IsScanWithout (of_documents stop (xs ++ ys)) gone query (before ++ later)
  scan_more = record {
    ascending =
        increasing_joined before later (length xs) one.ascending (IsStrictlyIncreasing-filter test shifted (shifted_increasing (length xs) numbers other.ascending))
        (λ n h. below_length stop xs ys query n ((one.exact n).0 h).0) later_from;
    exact = λ n. (joined_sound n, joined_complete n);
  }

-- ---- a number more of those that were found

-- a test is false of what it does not pass
pub fails_if : {P : Type 0} (b : Bool) → Decides b P → ¬ P → b ≡ false
fails_if true decides lacks = absurd (lacks (decides.0 refl))
fails_if false decides lacks = refl

kept_more : (test : ℕ → Bool) (first : ℕ) (numbers : List ℕ) (i : ℕ) (b : Bool) → i < length numbers → test (first + get_or numbers i 0) ≡ b
    → kept_from test first (take (i + 1) numbers) ≡ kept_from test first (take i numbers) ++ cond b ((first + get_or numbers i 0) ∷ []) []
kept_more test first numbers i b within is =
    let shift : ℕ → ℕ = λ number. first + number in
    let n = first + get_or numbers i 0 in
    ap (λ (l : List ℕ). filter test l) (map_more shift numbers i 0 within) ∙ filter-append test (map shift (take i numbers)) (n ∷ [])
    ∙ ap (λ (t : Bool). kept_from test first (take i numbers) ++ cond t (n ∷ []) []) is

-- the test passes it
pub kept_pushed : (test : ℕ → Bool) (initial found : List ℕ) (first : ℕ) (numbers : List ℕ) (i : ℕ) → i < length numbers → found ≡ initial ++ kept_from test first (take i numbers)
    → test (first + get_or numbers i 0) ≡ true → found ++ (first + get_or numbers i 0) ∷ [] ≡ initial ++ kept_from test first (take (i + 1) numbers)
kept_pushed test initial found first numbers i within is passes =
    let n = first + get_or numbers i 0 in
    ap (λ (l : List ℕ). l ++ n ∷ []) is ∙ append_assoc initial (kept_from test first (take i numbers)) (n ∷ []) ∙ ap (λ (l : List ℕ). initial ++ l) (sym (kept_more test first numbers i true within passes))

-- the test does not pass it
pub kept_left_out : (test : ℕ → Bool) (initial found : List ℕ) (first : ℕ) (numbers : List ℕ) (i : ℕ) → i < length numbers → found ≡ initial ++ kept_from test first (take i numbers)
    → test (first + get_or numbers i 0) ≡ false → found ≡ initial ++ kept_from test first (take (i + 1) numbers)
kept_left_out test initial found first numbers i within is fails =
    is ∙ ap (λ (l : List ℕ). initial ++ l) (sym (kept_more test first numbers i false within fails ∙ append-nil (kept_from test first (take i numbers))))
