-- The bits of words, as numbers.
use Rattle.std.proofs.Common.{◌≡◌, ◌≢◌, ℕ, zero, suc, ◌+◌, ◌-◌, ◌*◌, ◌/◌, ◌%◌, ◌^◌, ◌<◌, ◌≤◌, ◌⊎◌, inl, inr, ◌↔◌, List, [], ◌∷◌, ◌++◌, length, get_or, set, replicate, Contains, bit_and, bit_or, refl, sym, ap, ◌∙◌, subst, arith, w64}
use Rattle.std.proofs.lemmas.Bool.{cases_lt, cases_eq}
use Rattle.std.proofs.lemmas.List.{get_or-replicate, get_or-set_same, get_or-set_other}
use Rattle.std.proofs.lemmas.List.Elements.{Contains-push, Contains-push_cases, Contains-append_left}
use Rattle.std.proofs.lemmas.Nat.Bits.{bit_at-zero, bit_at-trailing_zeros, bit_at_clear_same, bit_at_clear_other, bit_at_above, bit_at_set_same, bit_at_set_other}
use Rattle.std.specs.Int.{bit_at, bit_not, trailing_zeros}
use Rattle.ix_postings.specs.TokenMarks.{mark_of}
use Rattle.ix_file.specs.Gaps.{Ascends, next_after}
use Rattle.ix_file.proofs.Gaps.{Ascends-push, next_after-push}
use Rattle.ix_query.specs.Marking.{AddsBits, CanAddBits, IsBitFrom}
use Rattle.ix_query.specs.Streams.{AreAll}
use lib.Bits.{and_le_l}

-- the bits below `low` were added, and `rest` has the others
pub record BitsAdded (old new : List ℕ) (word rest start : ℕ) : Type 0 where
  pub low : ℕ
  pub few : low ≤ 64
  pub ascending : Ascends 0 (2 ^ 32 - 1) new
  pub behind : next_after 0 new ≤ start + low
  pub exact : (n : ℕ) → Contains new n ↔ (Contains old n ⊎ ((n < start + low) × IsBitFrom word start n))
  pub left : (i : ℕ) → (bit_at rest i ≡ 1) ↔ ((bit_at word i ≡ 1) × (low ≤ i))

-- a number without the bit at a place
abbrev pub without_bit : ℕ → ℕ → ℕ
without_bit rest place = bit_and rest (bit_not w64 (1 * 2 ^ place % 2 ^ 64))

pub without_le : (rest place : ℕ) → without_bit rest place ≤ rest
without_le rest place = and_le_l rest (bit_not w64 (1 * 2 ^ place % 2 ^ 64))

pub without_less : (rest : ℕ) → 0 < rest → rest < 2 ^ 64 → without_bit rest (trailing_zeros w64 rest) < rest
without_less rest some fits =
    let lowest = bit_at-trailing_zeros w64 rest some fits in
    let place = trailing_zeros w64 rest in
    let cleared = bit_at_clear_same w64 rest place lowest.0 in
    let less = without_le rest place in
    elim (cases_eq (without_bit rest place) rest) [
      | inl same ↦ let is : bit_at (without_bit rest place) place ≡ 1 = ap (λ n. bit_at n place) same ∙ lowest.1 in absurd (omega arith)
      | inr apart ↦ omega arith
    ]

pub bits_more : (old new : List ℕ) (word rest start place : ℕ) → 0 < rest → rest < 2 ^ 64 → word < 2 ^ 64 → place ≡ trailing_zeros w64 rest → CanAddBits old word start → BitsAdded old new word rest start → BitsAdded old (new ++ (start + place) ∷ []) word (without_bit rest place) start
bits_more old new word rest start place some fits word_fits place_is can before =
    let P : ℕ → Type 0 = λ p. BitsAdded old (new ++ (start + p) ∷ []) word (without_bit rest p) start in
    subst P (sym place_is) (record {
      low = lowest_place + 1;
      few = let a = lowest.0 in omega arith;
      ascending = Ascends-push 0 (2 ^ 32 - 1) new (start + lowest_place) before.ascending (let b = before.behind in let h = high in omega arith) (can.fits lowest_place here.0);
      behind = let e = next_after-push 0 new (start + lowest_place) in omega arith;
      exact = λ n. (
        λ has. elim (Contains-push_cases new (start + lowest_place) n has) [
          | inl was ↦ elim ((before.exact n).0 was) [
            | inl older ↦ inl older
            | inr (below, bit) ↦ let h = high in inr (omega arith, bit)
          ]
          | inr same ↦ inr (omega arith, (omega arith, let at : n - start ≡ lowest_place = omega arith in ap (bit_at word) at ∙ here.0))
        ],
        λ h. elim h [
          | inl older ↦ Contains-append_left new _ n ((before.exact n).1 (inl older))
          | inr (below, (above, bit)) ↦ elim (cases_lt n (start + before.low)) [
            | inl less ↦ Contains-append_left new _ n ((before.exact n).1 (inr (less, (above, bit))))
            | inr more ↦
                let is : bit_at rest (n - start) ≡ 1 = (before.left (n - start)).1 (bit, omega arith) in
                elim (cases_lt (n - start) lowest_place) [
                  | inl lower ↦ let none = lowest.2 (n - start) lower in absurd (omega arith)
                  | inr not_lower ↦
                      let same : start + lowest_place ≡ n = omega arith in
                      subst (λ m. Contains (new ++ (start + lowest_place) ∷ []) m) same (Contains-push new (start + lowest_place))
                ]
          ]
        ],
      );
      left = λ i. (
        λ is. elim (cases_lt i 64) [
          | inl within ↦ elim (cases_eq i lowest_place) [
            | inl same ↦ let cleared = ap (bit_at (without_bit rest lowest_place)) same ∙ bit_at_clear_same w64 rest lowest_place lowest.0 in absurd (omega arith)
            | inr apart ↦
                let was : bit_at rest i ≡ 1 = sym (bit_at_clear_other w64 rest lowest_place lowest.0 i within apart) ∙ is in
                elim (cases_lt i lowest_place) [
                  | inl lower ↦ let none = lowest.2 i lower in absurd (omega arith)
                  | inr not_lower ↦ (((before.left i).0 was).0, omega arith)
                ]
          ]
          | inr past ↦ let none = bit_at_above (without_bit rest lowest_place) 64 i (let less = without_le rest lowest_place in omega arith) past in absurd (omega arith)
        ],
        λ (bit, above). elim (cases_lt i 64) [
          | inl within ↦
              let apart : i ≢ lowest_place = λ same. absurd (omega arith) in
              bit_at_clear_other w64 rest lowest_place lowest.0 i within apart ∙ (before.left i).1 (bit, let h = high in omega arith)
          | inr past ↦ let none = bit_at_above word 64 i word_fits past in absurd (omega arith)
        ],
      );
    })
  where
    lowest_place : ℕ
    lowest_place = trailing_zeros w64 rest

    lowest : (lowest_place < 64) × (bit_at rest lowest_place ≡ 1) × ((i : ℕ) → i < lowest_place → bit_at rest i ≡ 0)
    lowest = bit_at-trailing_zeros w64 rest some fits

    here : (bit_at word lowest_place ≡ 1) × (before.low ≤ lowest_place)
    here = (before.left lowest_place).0 lowest.1

    high : before.low ≤ lowest_place
    high = here.1

-- where the lowest of the bits that are left stands is a place that fits
pub bits_fit : (old new : List ℕ) (word rest start : ℕ) → 0 < rest → rest < 2 ^ 64 → CanAddBits old word start → BitsAdded old new word rest start → start + trailing_zeros w64 rest < 2 ^ 32 - 1
bits_fit old new word rest start some fits can before =
    let lowest = bit_at-trailing_zeros w64 rest some fits in
    can.fits (trailing_zeros w64 rest) ((before.left (trailing_zeros w64 rest)).0 lowest.1).0

pub bits_all : (old new : List ℕ) (word start : ℕ) → word < 2 ^ 64 → BitsAdded old new word 0 start → AddsBits old new word start
bits_all old new word start fits before = record {
  ascending = before.ascending;
  behind = let a = before.behind in let b = before.few in omega arith;
  exact = λ n. (
    λ has. elim ((before.exact n).0 has) [ inl older ↦ inl older | inr (below, bit) ↦ inr bit ],
    λ h. elim h [
      | inl older ↦ (before.exact n).1 (inl older)
      | inr (above, bit) ↦ elim (cases_lt n (start + before.low)) [
        | inl less ↦ (before.exact n).1 (inr (less, (above, bit)))
        | inr more ↦ let is = (before.left (n - start)).1 (bit, omega arith) in let none = bit_at-zero (n - start) in absurd (omega arith)
      ]
    ],
  );
}

-- ---- marks, a word after another

-- the numbers of the words before a place
pub record WordsRead (words : List ℕ) (found : List ℕ) (i : ℕ) : Type 0 where
  pub ascending : Ascends 0 (2 ^ 32 - 1) found
  pub behind : next_after 0 found ≤ i * 64
  pub exact : (n : ℕ) → Contains found n ↔ ((n < i * 64) × (mark_of words n ≡ 1))

bit_of_word : (words : List ℕ) (i word n : ℕ) → word ≡ get_or words i 0 → i * 64 ≤ n → n < i * 64 + 64 → bit_at word (n - i * 64) ≡ mark_of words n
bit_of_word words i word n is above below =
    let place : n - i * 64 ≡ n % 64 = omega arith in
    let at : n / 64 ≡ i = omega arith in
    ap (bit_at word) place ∙ ap (λ w. bit_at w (n % 64)) (is ∙ ap (λ k. get_or words k 0) (sym at))

pub words_more : (words found new : List ℕ) (i word : ℕ) → word < 2 ^ 64 → word ≡ get_or words i 0 → WordsRead words found i → AddsBits found new word (i * 64) → WordsRead words new (i + 1)
words_more words found new i word fits is before adds = record {
  ascending = adds.ascending;
  behind = let b = adds.behind in omega arith;
  exact = λ n. (
    λ has. elim ((adds.exact n).0 has) [
      | inl older ↦ let was = (before.exact n).0 older in let low = was.0 in (omega arith, was.1)
      | inr (above, bit) ↦ elim (cases_lt (n - i * 64) 64) [
        | inl within ↦ (omega arith, sym (bit_of_word words i word n is above (omega arith)) ∙ bit)
        | inr past ↦ let none = bit_at_above word 64 (n - i * 64) fits past in absurd (omega arith)
      ]
    ],
    λ (below, marked). elim (cases_lt n (i * 64)) [
      | inl less ↦ (adds.exact n).1 (inl ((before.exact n).1 (less, marked)))
      | inr more ↦ (adds.exact n).1 (inr (more, bit_of_word words i word n is more (omega arith) ∙ marked))
    ],
  );
}

pub words_can : (words found : List ℕ) (i word count : ℕ) → word < 2 ^ 64 → word ≡ get_or words i 0 → count < 2 ^ 32 → ((n : ℕ) → mark_of words n ≡ 1 → n < count) → WordsRead words found i → CanAddBits found word (i * 64)
words_can words found i word count fits is small within before = record {
  ascending = before.ascending;
  behind = before.behind;
  fits = λ k bit. elim (cases_lt k 64) [
    | inl low ↦
        let place : i * 64 + k - i * 64 ≡ k = omega arith in
        let marked = sym (bit_of_word words i word (i * 64 + k) is (omega arith) (omega arith)) ∙ ap (bit_at word) place ∙ bit in
        let less = within (i * 64 + k) marked in omega arith
    | inr past ↦ let none = bit_at_above word 64 k fits past in absurd (omega arith)
  ];
}

-- ---- one more mark

pub mark_more : (words : List ℕ) (number word n : ℕ) → number / 64 < length words → word ≡ get_or words (number / 64) 0 → (mark_of (set words (number / 64) (bit_or word (1 * 2 ^ (number % 64) % 2 ^ 64))) n ≡ 1) ↔ ((mark_of words n ≡ 1) ⊎ (n ≡ number))
mark_more words number word n within is = elim (cases_eq n number) [
  | inl same ↦ (λ _. inr same, λ _. ap (mark_of (set words (number / 64) new)) same ∙ ap (λ w. bit_at w (number % 64)) (get_or-set_same words (number / 64) new 0 within) ∙ bit_at_set_same w64 word (number % 64) low)
  | inr apart ↦
      let kept : mark_of (set words (number / 64) new) n ≡ mark_of words n = elim (cases_eq (n / 64) (number / 64)) [
        | inl one_word ↦
            let differ : n % 64 ≢ number % 64 = λ same. apart (omega (arith, same, one_word)) in
            ap (λ i. bit_at (get_or (set words (number / 64) new) i 0) (n % 64)) one_word
            ∙ ap (λ w. bit_at w (n % 64)) (get_or-set_same words (number / 64) new 0 within)
            ∙ bit_at_set_other w64 word (number % 64) low (n % 64) differ
            ∙ ap (λ w. bit_at w (n % 64)) is
            ∙ ap (λ i. bit_at (get_or words i 0) (n % 64)) (sym one_word)
        | inr elsewhere ↦ ap (λ w. bit_at w (n % 64)) (get_or-set_other words (number / 64) (n / 64) new 0 elsewhere)
      ] in
      (λ marked. inl (sym kept ∙ marked), λ h. elim h [ inl was ↦ kept ∙ was | inr same ↦ absurd (apart same) ])
]
  where
    new : ℕ
    new = bit_or word (1 * 2 ^ (number % 64) % 2 ^ 64)

    low : number % 64 < 64
    low = omega arith
