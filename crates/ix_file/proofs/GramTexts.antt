-- A gram of a term is three characters: UTF-8 text of 3 to 12 bytes.
use Rattle.std.proofs.Common.{◌≡◌, ℕ, zero, suc, ◌<◌, ◌≤◌, Bool, true, false, ◌&&◌, List, [], ◌∷◌, ◌++◌, length, Contains, IsUtf8, inl, inr, refl, sym, ap, subst, ◌∙◌, arith, length-append}
use Rattle.std.proofs.lemmas.Str.{IsUtf8-append, IsUtf8-from_ascii, scalars-chars, length-encode, len_utf8_bounds}
use Rattle.std.proofs.Math.Utf8.{scalar, scalars}
use Rattle.std.specs.Char.{encode_utf8}
use Rattle.std.specs.List.{slice_index}
use Rattle.std.specs.Str.{chars}
use Rattle.ix_text.proofs.AscendingLists.{contains_cases, contains_none}
use Rattle.ix_text.specs.Terms.{IsTerm}
use Rattle.ix_text.specs.Windows.{grams_of}
use Rattle.ix_index_text.specs.declared.windows.GramPair.{GramPair}
use Rattle.ix_index_text.specs.WindowPairs.{gram_of, pairs_of}
use Rattle.ix_index_text.proofs.HeldLemmas.{chars-marked, term_has}
use Rattle.ix_index_text.proofs.TermPairs.{pair}

three_so : (x y z w : Bool) → (x && (y && (z && w))) ≡ true → (x && (y && (z && true))) ≡ true
three_so true true true w e = refl
three_so true true false w e = e
three_so true false z w e = e
three_so false y z w e = e

tail_so : (x w : Bool) → (x && w) ≡ true → w ≡ true
tail_so true w e = e
tail_so false w e = absurd cc

window_scalars : (number : ℕ) (cs : List ℕ) (p : GramPair) → scalars cs ≡ true → Contains (pairs_of number cs) p → scalars (p.first ∷ p.second ∷ p.third ∷ []) ≡ true
window_scalars number [] p so has = absurd (contains_none p has)
window_scalars number (a ∷ []) p so has = absurd (contains_none p has)
window_scalars number (a ∷ b ∷ []) p so has = absurd (contains_none p has)
window_scalars number (a ∷ b ∷ c ∷ cs) p so has =
    elim (contains_cases (pair number a b c) (pairs_of number (b ∷ c ∷ cs)) p has) [
      | inl first ↦ subst (λ (q : GramPair). scalars (q.first ∷ q.second ∷ q.third ∷ []) ≡ true) first (three_so (scalar a) (scalar b) (scalar c) (scalars cs) so)
      | inr later ↦ window_scalars number (b ∷ c ∷ cs) p (tail_so (scalar a) (scalars (b ∷ c ∷ cs)) so) later
    ]

mark_ascii : (k : ℕ) → slice_index (36 ∷ []) k < 128
mark_ascii zero = omega arith
mark_ascii (suc k) = omega arith

marked_text : (term : List ℕ) → IsUtf8 term → IsUtf8 (36 ∷ (term ++ 36 ∷ []))
marked_text term text =
    let mark : IsUtf8 (36 ∷ []) = IsUtf8-from_ascii (36 ∷ []) mark_ascii in
    IsUtf8-append (36 ∷ []) (term ++ 36 ∷ []) mark (IsUtf8-append term (36 ∷ []) text mark)

-- the three characters of a gram of a term
pub record HasCharacters (gram : List ℕ) : Type 0 where
  pub pair : GramPair
  pub spelled : gram_of pair ≡ gram
  pub are : scalars (pair.first ∷ pair.second ∷ pair.third ∷ []) ≡ true

pub gram_characters : (term gram : List ℕ) → IsUtf8 term → Contains (grams_of term) gram → HasCharacters gram
gram_characters term gram text has =
    let held = (term_has 0 term gram 0 text).1 (refl, has) in
    let so : scalars (36 ∷ (chars term ++ 36 ∷ [])) ≡ true =
    ap scalars (sym (chars-marked term text)) ∙ scalars-chars (36 ∷ (term ++ 36 ∷ [])) (marked_text term text) in
    record { pair = held.pair; spelled = held.spelled; are = window_scalars 0 (36 ∷ (chars term ++ 36 ∷ [])) held.pair so held.among }

character_size : (c : ℕ) → (1 ≤ length (encode_utf8 c)) × (length (encode_utf8 c) ≤ 4)
character_size c = let size = length-encode c in let bounds = len_utf8_bounds c in (omega (arith, size, bounds.0), omega (arith, size, bounds.1))

size_of : (p : GramPair) → (0 < length (gram_of p)) × (length (gram_of p) ≤ 12)
size_of p =
    let a = character_size p.first in
    let b = character_size p.second in
    let c = character_size p.third in
    let one = length-append (encode_utf8 p.first) (encode_utf8 p.second ++ (encode_utf8 p.third ++ [])) in
    let two = length-append (encode_utf8 p.second) (encode_utf8 p.third ++ []) in
    let three = length-append (encode_utf8 p.third) [] in
    (omega (arith, a.0, one), omega (arith, a.1, b.1, c.1, one, two, three))

pub gram_is_text : (gram : List ℕ) → HasCharacters gram → IsTerm gram
gram_is_text gram h =
    let size = size_of h.pair in
    let long : length (gram_of h.pair) ≡ length gram = ap length h.spelled in
    record {
      text = (h.pair.first ∷ h.pair.second ∷ h.pair.third ∷ [], (h.are, h.spelled));
      some_byte = omega (arith, size.0, long);
      short = omega (arith, size.1, long);
    }
