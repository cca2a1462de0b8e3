-- A fault of some bytes, other than that they end, is one of all that begin so.
use Rattle.std.proofs.Common.{◌≡◌, ℕ, List, [], ◌∷◌, ◌++◌, Some, slice_get, refl, sym, ap, ◌∙◌, append_assoc}
use Rattle.ix_vbyte.specs.Reading.{StartsWithZero, IsTooBig}

first_stays : (seen rest : List ℕ) (byte : ℕ) → slice_get seen 0 ≡ Some byte → slice_get (seen ++ rest) 0 ≡ Some byte
first_stays [] rest byte e = absurd cc
first_stays (x ∷ seen) rest byte e = e

some_first : (seen front rest : List ℕ) (last : ℕ) → seen ≡ front ++ last ∷ rest → (byte : ℕ) × (slice_get seen 0 ≡ Some byte)
some_first [] [] rest last e = absurd cc
some_first [] (x ∷ front) rest last e = absurd cc
some_first (x ∷ seen) front rest last e = (x, refl)

pub zero_stays : (seen rest : List ℕ) → StartsWithZero seen → StartsWithZero (seen ++ rest)
zero_stays seen rest h = first_stays seen rest 0 h

pub big_stays : (seen rest : List ℕ) → IsTooBig seen → IsTooBig (seen ++ rest)
big_stays seen rest h = record {
  front = h.front;
  last = h.last;
  rest = h.rest ++ rest;
  parts = ap (λ (xs : List ℕ). xs ++ rest) h.parts ∙ append_assoc h.front (h.last ∷ h.rest) rest;
  unmarked = h.unmarked;
  above = h.above;
  no_zero = λ zero.
      let first = some_first seen h.front h.rest h.last h.parts in
      h.no_zero (first.1 ∙ (sym (first_stays seen rest first.0 first.1) ∙ zero));
}
