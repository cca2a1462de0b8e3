-- What a run stands for, in both forms of the definition.
use Rattle.std.proofs.Common.{◌≡◌, ◌≢◌, ℕ, zero, suc, ◌<◌, ◌≤◌, ◌^◌, Bool, true, false, ◌&&◌, cond, List, [], ◌∷◌, ◌++◌, length, get_or, drop, Result, Ok, Err, ◌⊎◌, inl, inr, refl, sym, ap, ◌∙◌, subst, arith}
use Rattle.std.specs.Prelude.{bytes_eq, codes, decimal, nat_eq}
use Rattle.std.specs.List.{starts_with}
use Rattle.std.specs.Str.Parse.{digits_value}
use Rattle.std.proofs.lemmas.Bool.{le-leb, leb-true, lt-ltb, ltb-true}
use Rattle.std.proofs.lemmas.Bool.Decides.{Decides-eqb}
use Rattle.std.proofs.lemmas.Slice.Eq.{bytes_eq-Decides, starts_is}
use Rattle.std.proofs.lemmas.Fmt.{decimal-digits_value, digits_decimal, digits_value-decimal, first_decimal, decimal_digit}
use Rattle.ix_query_text.specs.declared.error.QueryError.{QueryError}
use Rattle.ix_query_text.specs.declared.error.QueryError.TheVariants.{BadNear}
use Rattle.ix_query_text.specs.Cutting.{IsRunOf, and, or, not, near, other}
use Rattle.ix_query_text.specs.Lexemes.{Sign, And, Or, Not, Near, Run, is_distance, near_reading, run_reading}
use Rattle.ix_query_text.proofs.Lexing.{own}

-- which way a choice went
pub chosen : {A : Type 0} (b : Bool) (x y z : A) → cond b x y ≡ z → ((b ≡ true) × (x ≡ z)) ⊎ ((b ≡ false) × (y ≡ z))
chosen true x y z is = inl (refl, is)
chosen false x y z is = inr (refl, is)

both : (b c : Bool) → (b && c) ≡ true → (b ≡ true) × (c ≡ true)
both true true is = (refl, refl)
both true false is = absurd (cc)
both false c is = absurd (cc)

pub never : (b : Bool) → (b ≡ true → ⊥) → b ≡ false
never true f = absurd (f refl)
never false f = refl

differs : (run word : List ℕ) → bytes_eq run word ≡ false → run ≢ word
differs run word is same = let yes = (bytes_eq-Decides run word).1 same in cc

some_byte : (digits : List ℕ) → 49 ≤ get_or digits 0 0 → 0 < length digits
some_byte [] leads = absurd (omega arith)
some_byte (d ∷ digits) leads = omega arith

-- a number whose digits begin with one from 1 on is not 0
value_low : (digits : List ℕ) → decimal (digits_value 10 digits) ≡ digits → 49 ≤ get_or digits 0 0 → 1 ≤ digits_value 10 digits
value_low digits is leads = by_zero (digits_value 10 digits) is
  where
    by_zero : (n : ℕ) → decimal n ≡ digits → 1 ≤ n
    by_zero zero e = absurd (let z : get_or digits 0 0 ≡ 48 = ap (λ ds. get_or ds 0 0) (sym e ∙ decimal_digit 0 (omega arith)) in omega arith)
    by_zero (suc n) e = omega arith

distance_decimal : (digits : List ℕ) → is_distance digits ≡ true → (1 ≤ digits_value 10 digits) × (digits_value 10 digits ≤ 65535) × (decimal (digits_value 10 digits) ≡ digits)
distance_decimal digits is =
    let parts = both _ _ is in
    let firsts = both _ _ parts.0 in
    let leads = leb-true 49 _ firsts.0 in
    let small = ltb-true _ _ parts.1 in
    let value = decimal-digits_value own digits firsts.1 (some_byte digits leads) (λ zero. absurd (omega arith)) (omega arith) in
    (value_low digits value leads, omega arith, value)

near_sound : (run : List ℕ) (sign : Sign) → run ≡ codes "NEAR/" ++ drop 5 run → near_reading (drop 5 run) ≡ Ok sign → IsRunOf run sign
unfolding near_reading
near_sound run sign begins read =
    elim (chosen (is_distance (drop 5 run)) (Ok (Near (digits_value 10 (drop 5 run)))) (Err BadNear) (Ok sign) read) [
      | inl p ↦
          let known = distance_decimal (drop 5 run) p.0 in
          let is : Near (digits_value 10 (drop 5 run)) ≡ sign = cc in
          subst (IsRunOf run) is (near known.0 known.1 (begins ∙ ap (λ digits. codes "NEAR/" ++ digits) (sym known.2)))
      | inr p ↦ absurd (cc)
    ]

starts : (run : List ℕ) → starts_with nat_eq run (codes "NEAR/") ≡ true → run ≡ codes "NEAR/" ++ drop 5 run
starts run is = (starts_is Decides-eqb run (codes "NEAR/") (starts_with nat_eq run (codes "NEAR/")) refl).0 is

no_start : (run : List ℕ) → starts_with nat_eq run (codes "NEAR/") ≡ false → (rest : List ℕ) → run ≢ codes "NEAR/" ++ rest
no_start run lacks rest is = let yes = (starts_is Decides-eqb run (codes "NEAR/") (starts_with nat_eq run (codes "NEAR/")) refl).1 rest is in absurd (cc)

after_not : (run : List ℕ) (sign : Sign) → run ≢ codes "AND" → run ≢ codes "OR" → run ≢ codes "NOT" → cond (starts_with nat_eq run (codes "NEAR/")) (near_reading (drop 5 run)) (Ok (Run run)) ≡ Ok sign → IsRunOf run sign
after_not run sign no_and no_or no_not read =
    elim (chosen (starts_with nat_eq run (codes "NEAR/")) (near_reading (drop 5 run)) (Ok (Run run)) (Ok sign) read) [
      | inl p ↦ near_sound run sign (starts run p.0) p.1
      | inr p ↦ let is : Run run ≡ sign = cc in subst (IsRunOf run) is (other no_and no_or no_not (no_start run p.0))
    ]

word_or : (run word : List ℕ) (sign this : Sign) (rest : Result Sign QueryError) → cond (bytes_eq run word) (Ok this) rest ≡ Ok sign → ((run ≡ word) × (this ≡ sign)) ⊎ ((run ≢ word) × (rest ≡ Ok sign))
word_or run word sign this rest read =
    elim (chosen (bytes_eq run word) (Ok this) rest (Ok sign) read) [
      | inl p ↦ inl ((bytes_eq-Decides run word).0 p.0, cc)
      | inr p ↦ inr (differs run word p.0, p.1)
    ]

pub run_sound : (run : List ℕ) (sign : Sign) → run_reading run ≡ Ok sign → IsRunOf run sign
unfolding run_reading
run_sound run sign read =
    elim (word_or run (codes "AND") sign And _ read) [
      | inl p ↦ subst (IsRunOf run) p.1 (and p.0)
      | inr no_and ↦ elim (word_or run (codes "OR") sign Or _ no_and.1) [
        | inl p ↦ subst (IsRunOf run) p.1 (or p.0)
        | inr no_or ↦ elim (word_or run (codes "NOT") sign Not _ no_or.1) [
          | inl p ↦ subst (IsRunOf run) p.1 (not p.0)
          | inr no_not ↦ after_not run sign no_and.0 no_or.0 no_not.0 no_not.1
        ]
      ]
    ]

near_complete : (distance : ℕ) → 1 ≤ distance → distance ≤ 65535 → near_reading (decimal distance) ≡ Ok (Near distance)
unfolding near_reading
near_complete distance low high =
    let value = digits_value-decimal own distance (omega arith) in
    rw (le-leb 49 (get_or (decimal distance) 0 0) (first_decimal distance low (omega arith)), digits_decimal own distance (omega arith), value, lt-ltb distance (2 ^ 16) (omega arith)) refl

pub run_complete : {run : List ℕ} {sign : Sign} → IsRunOf run sign → run_reading run ≡ Ok sign
unfolding run_reading
run_complete (and is) = rw is refl
run_complete (or is) = rw is refl
run_complete (not is) = rw is refl
run_complete (near {distance = distance} low high is) = rw is (near_complete distance low high)
run_complete (other {run = run} no_and no_or no_not no_near) =
    rw (never _ (λ b. no_and ((bytes_eq-Decides run (codes "AND")).0 b)), never _ (λ b. no_or ((bytes_eq-Decides run (codes "OR")).0 b)), never _ (λ b. no_not ((bytes_eq-Decides run (codes "NOT")).0 b)), never _ (λ b. no_near (drop 5 run) (starts run b))) refl

-- the digits write no distance
abbrev pub NoDistance : List ℕ → Type 0
NoDistance digits = (distance : ℕ) → 1 ≤ distance → distance ≤ 65535 → digits ≢ decimal distance

no_distance : (digits : List ℕ) (fault : QueryError) → near_reading digits ≡ Err fault → (BadNear ≡ fault) × NoDistance digits
unfolding near_reading
no_distance digits fault read =
    elim (chosen (is_distance digits) (Ok (Near (digits_value 10 digits))) (Err BadNear) (Err fault) read) [
      | inl p ↦ absurd (cc)
      | inr p ↦ (cc, λ distance low high is. let held = ap near_reading is ∙ near_complete distance low high in absurd (cc (sym held ∙ read)))
    ]

bad_by : (digits : List ℕ) (held : Bool) → is_distance digits ≡ held → NoDistance digits → cond held (Ok (Near (digits_value 10 digits))) (Err BadNear) ≡ Err BadNear
bad_by digits true is none = let known = distance_decimal digits is in absurd (none _ known.0 known.1 (sym known.2))
bad_by digits false is none = refl

bad_distance : (digits : List ℕ) → NoDistance digits → near_reading digits ≡ Err BadNear
unfolding near_reading
bad_distance digits none = bad_by digits (is_distance digits) refl none

past : (b : Bool) (this : Sign) (rest : Result Sign QueryError) (fault : QueryError) → cond b (Ok this) rest ≡ Err fault → rest ≡ Err fault
past true this rest fault read = absurd (cc)
past false this rest fault read = read

-- a run that has no meaning
pub run_fault : (run : List ℕ) (fault : QueryError) → run_reading run ≡ Err fault → (BadNear ≡ fault) × (run ≡ codes "NEAR/" ++ drop 5 run) × NoDistance (drop 5 run)
unfolding run_reading
run_fault run fault read =
    elim (chosen (starts_with nat_eq run (codes "NEAR/")) (near_reading (drop 5 run)) (Ok (Run run)) (Err fault) (past _ Not _ fault (past _ Or _ fault (past _ And _ fault read)))) [
      | inl p ↦ let f = no_distance (drop 5 run) fault p.1 in (f.0, starts run p.0, f.1)
      | inr p ↦ absurd (cc)
    ]

pub run_bad : (digits : List ℕ) → NoDistance digits → run_reading (codes "NEAR/" ++ digits) ≡ Err BadNear
unfolding run_reading
run_bad digits none = bad_distance digits none
