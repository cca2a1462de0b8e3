-- What a text reads as is proper.
use Rattle.std.proofs.Common.{◌≡◌, ℕ, suc, ◌+◌, ◌≤◌, Bool, true, false, cond, ◌==◌, List, [], ◌∷◌, length, Result, Ok, Err, ◌⊎◌, inl, inr, refl, sym, ap, subst, arith}
use Rattle.std.specs.List.{AllByRecursion, list_any, list_all}
use Rattle.unicode_segmentation.specs.Word.{words}
use Rattle.ix_gram.specs.Patterns.{pieces_of}
use Rattle.ix_text.specs.TokenLists.{Entry}
use Rattle.ix_query_text.specs.declared.error.QueryError.TheVariants.{NoWord, OnlyStopWords, BareStar, StarInPhrase}
use Rattle.ix_query_text.specs.declared.tree.Tree.{Tree}
use Rattle.ix_query_text.specs.declared.tree.Tree.TheVariants as tree
use Rattle.ix_query_text.specs.declared.proper.Place.{Place}
use Rattle.ix_query_text.specs.declared.proper.Place.TheVariants.{Alone, BetweenOrs, Operand}
use Rattle.ix_query_text.specs.Lexemes.{Sign, Lexeme, At}
use Rattle.ix_query_text.specs.Cutting.{IsRunOf, and, or, not, near, other, IsLexeme, opened, closed, quoted, run, AreLexemes, none, space, lexeme}
use Rattle.ix_query_text.specs.Judgement as judgement
use Rattle.ix_query_text.specs.Judgement.{is_star, strip_holes, phrase_reading, entries_reading}
use Rattle.ix_query_text.specs.Grammar.{joined_by, IsUnary, AreAnds, IsAnd, AreOrs, IsOr, Reads}
use Rattle.ix_query_text.specs.Grammar as grammar
use Rattle.ix_query_text.specs.Places.{depth_at}
use Rattle.ix_query_text.specs.Proper.{IsPhrase, IsShaped, IsProper, Depths, depths}
use Rattle.ix_query_text.proofs.Results.{bind_ok}
use Rattle.ix_query_text.proofs.Strips.{strip_is}
use Rattle.ix_query_text.proofs.TreeLemmas.{every_part, even, deepest_at, shaped-Phrase, shaped-Near, shaped-Pattern, shaped-And, shaped-Or, shaped-Not, depths-Phrase, depths-Near, depths-Pattern, depths-And, depths-Or, depths-Not, and_depth, or_depth}

-- ---- the distances of lexemes

abbrev IsInRange : Lexeme → Type 0
IsInRange (At offset (Sign.Near distance)) = (1 ≤ distance) × (distance ≤ 65535)
IsInRange (At offset sign) = Unit {0}

abbrev AreInRange : List Lexeme → Type 0
AreInRange = AllByRecursion IsInRange

run_in_range : {word : List ℕ} {sign : Sign} (offset : ℕ) → IsRunOf word sign → IsInRange (At offset sign)
run_in_range offset (and is) = tt
run_in_range offset (or is) = tt
run_in_range offset (not is) = tt
run_in_range offset (near some few is) = (some, few)
run_in_range offset (other a b c d) = tt

sign_in_range : {sign : Sign} {bytes rest : List ℕ} (offset : ℕ) → IsLexeme sign bytes rest → IsInRange (At offset sign)
sign_in_range offset (opened is) = tt
sign_in_range offset (closed is) = tt
sign_in_range offset (quoted plain is) = tt
sign_in_range offset (run some plain ends what) = run_in_range offset what

cut_in_range : {offset : ℕ} {bytes : List ℕ} {lexemes : List Lexeme} → AreLexemes offset bytes lexemes → AreInRange lexemes
cut_in_range none = tt
cut_in_range (space more) = cut_in_range more
cut_in_range (lexeme {offset = offset} read whole more) = (sign_in_range offset read, cut_in_range more)

-- ---- leaves

-- In shape, and nothing is deep in it.
record IsLeaf (part : Tree) : Type 0 where
  shaped : IsShaped part
  flat : depths part ≡ even 0

either_ok : {A B : Type 0} (b : Bool) (r s : Result A B) (x : A) → cond b r s ≡ Ok x → (r ≡ Ok x) ⊎ (s ≡ Ok x)
either_ok true r s x is = inl is
either_ok false r s x is = inr is

unless_ok : {A B : Type 0} (b : Bool) (e : B) (r : Result A B) (x : A) → cond b (Err e) r ≡ Ok x → (b ≡ false) × (r ≡ Ok x)
unless_ok true e r x is = absurd (cc)
unless_ok false e r x is = (refl, is)

not_empty : (entries : List Entry) → (length entries == 0) ≡ false → entries ≡ [] → ⊥
not_empty [] some is = absurd (cc)
not_empty (entry ∷ entries) some is = absurd (cc)

phrase_leaf : (stop : List (List ℕ)) (text : List ℕ) (part : Tree) → phrase_reading stop text ≡ Ok part → IsLeaf part
unfolding phrase_reading
phrase_leaf stop text part read =
    let some = unless_ok (length (words text) == 0) NoWord _ part read in
    let parts = bind_ok (entries_reading stop (words text)) _ part some.1 in
    let entries = strip_holes parts.0 in
    let left = unless_ok (length entries == 0) OnlyStopWords (Ok (tree.Phrase entries)) part parts.2 in
    let is : tree.Phrase entries ≡ part = cc in
    let ends = strip_is parts.0 in
    let phrase : IsPhrase entries = record { some = not_empty entries left.0; first = ends.first; last = ends.last } in
    subst IsLeaf is (record { shaped = (shaped-Phrase entries).1 phrase; flat = depths-Phrase entries })

pattern_leaf : (text : List ℕ) (part : Tree) → judgement.pattern_reading text ≡ Ok part → IsLeaf part
pattern_leaf text part read =
    let some = unless_ok (list_all is_star text) BareStar (Ok (tree.Pattern (pieces_of text))) part read in
    let is : tree.Pattern (pieces_of text) ≡ part = cc in
    subst IsLeaf is (record { shaped = (shaped-Pattern (pieces_of text)).1 tt; flat = depths-Pattern (pieces_of text) })

plain_leaf : (stop : List (List ℕ)) (text : List ℕ) (part : Tree) → judgement.plain stop text ≡ Ok part → IsLeaf part
unfolding judgement.plain
plain_leaf stop text part read =
    elim (either_ok (list_any is_star text) (judgement.pattern_reading text) (phrase_reading stop text) part read) [
      | inl pattern ↦ pattern_leaf text part pattern
      | inr phrase ↦ phrase_leaf stop text part phrase
    ]

quoted_leaf : (stop : List (List ℕ)) (text : List ℕ) (part : Tree) → judgement.quoted stop text ≡ Ok part → IsLeaf part
unfolding judgement.quoted
quoted_leaf stop text part read = phrase_leaf stop text part (unless_ok (list_any is_star text) StarInPhrase _ part read).1

near_leaf : (first second : List ℕ) (distance : ℕ) → (1 ≤ distance) × (distance ≤ 65535) → IsLeaf (tree.Near first second distance)
near_leaf first second distance range = record { shaped = (shaped-Near first second distance).1 range; flat = depths-Near first second distance }

-- ---- parts of a text, with so many brackets and NOTs deep around them

-- Where a bracket is needed at one place, it is at the next, and one is enough.
record IsGrowing (deep : Depths) : Type 0 where
  first : deep.alone ≤ deep.between_ors
  second : deep.between_ors ≤ deep.operand
  third : deep.operand ≤ suc deep.alone

record IsFine (place : Place) (around : ℕ) (part : Tree) : Type 0 where
  shaped : IsShaped part
  growing : IsGrowing (depths part)
  fits : around + depth_at place (depths part) ≤ 64

growing_even : (n : ℕ) → IsGrowing (even n)
growing_even n = record { first = omega arith; second = omega arith; third = omega arith }

leaf_fine : (around : ℕ) (part : Tree) → around ≤ 64 → IsLeaf part → IsFine Operand around part
leaf_fine around part few leaf = record {
  shaped = leaf.shaped;
  growing = subst IsGrowing (sym leaf.flat) (growing_even 0);
  fits = let flat : (depths part).operand ≡ 0 = ap (λ d. d.operand) leaf.flat in omega arith;
}

not_fine : (around : ℕ) (part : Tree) → IsFine Operand (suc around) part → IsFine Operand around (tree.Not part)
not_fine around part fine = record {
  shaped = (shaped-Not part).1 fine.shaped;
  growing = subst IsGrowing (sym (depths-Not part)) (growing_even (suc (depths part).operand));
  fits = let deep : (depths (tree.Not part)).operand ≡ suc (depths part).operand = ap (λ d. d.operand) (depths-Not part) in
      let within = fine.fits in
      omega arith;
}

bracket_fine : (around : ℕ) (part : Tree) → IsFine Alone (suc around) part → IsFine Operand around part
bracket_fine around part fine = record {
  shaped = fine.shaped;
  growing = fine.growing;
  fits = let grown = fine.growing.third in let within = fine.fits in omega arith;
}

each_shaped : (place : Place) (around : ℕ) (parts : List Tree) → AllByRecursion (IsFine place around) parts → AllByRecursion IsShaped parts
each_shaped place around [] fine = tt
each_shaped place around (part ∷ parts) fine = (fine.0.shaped, each_shaped place around parts fine.1)

deepest_fits : (place : Place) (around : ℕ) (parts : List Tree) → around ≤ 64 → AllByRecursion (IsFine place around) parts → around + deepest_at place parts ≤ 64
deepest_fits place around [] few fine = omega arith
deepest_fits place around (part ∷ parts) few fine =
    let here = fine.0.fits in
    let there = deepest_fits place around parts few fine.1 in
    omega arith

many : (first second : Tree) (parts : List Tree) → 2 ≤ length (first ∷ second ∷ parts)
many first second parts = omega arith

and_fine : (around : ℕ) (part : Tree) (parts : List Tree) → around ≤ 64 → IsFine Operand around part → AllByRecursion (IsFine Operand around) parts → IsFine BetweenOrs around (joined_by tree.And (part ∷ parts))
and_fine around part [] few fine others = record {
  shaped = fine.shaped;
  growing = fine.growing;
  fits = let grown = fine.growing.second in let within = fine.fits in omega arith;
}
and_fine around part (second ∷ parts) few fine others =
    let all = part ∷ second ∷ parts in
    record {
      shaped = (shaped-And all).1 (many part second parts, (every_part IsShaped all).0 (each_shaped Operand around all (fine, others)));
      growing = subst IsGrowing (sym (depths-And all)) (record { first = omega arith; second = omega arith; third = omega arith });
      fits = let deep = and_depth BetweenOrs all in let within = deepest_fits Operand around all few (fine, others) in omega (arith, deep, within);
    }

or_fine : (around : ℕ) (part : Tree) (parts : List Tree) → around ≤ 64 → IsFine BetweenOrs around part → AllByRecursion (IsFine BetweenOrs around) parts → IsFine Alone around (joined_by tree.Or (part ∷ parts))
or_fine around part [] few fine others = record {
  shaped = fine.shaped;
  growing = fine.growing;
  fits = let grown = fine.growing.first in let within = fine.fits in omega arith;
}
or_fine around part (second ∷ parts) few fine others =
    let all = part ∷ second ∷ parts in
    record {
      shaped = (shaped-Or all).1 (many part second parts, (every_part IsShaped all).0 (each_shaped BetweenOrs around all (fine, others)));
      growing = subst IsGrowing (sym (depths-Or all)) (record { first = omega arith; second = omega arith; third = omega arith });
      fits = let deep = or_depth Alone all in let within = deepest_fits BetweenOrs around all few (fine, others) in omega (arith, deep, within);
    }

module _ (stop : List (List ℕ)) where
  mutual
    unary_fine : {k : ℕ} {from rest : List Lexeme} {part : Tree} → IsUnary stop k from part rest → k ≤ 64 → AreInRange from → IsFine Operand k part × AreInRange rest
    unary_fine {k} {part} (grammar.negation {part = inner} few unary) deep ranges =
        let f = unary_fine unary (omega arith) ranges.1 in (not_fine k inner f.0, f.1)
    unary_fine {k} {part} (grammar.bracket few inside) deep ranges =
        let f = or_fine_from inside (omega arith) ranges.1 in (bracket_fine k part f.0, f.1.1)
    unary_fine {k} (grammar.near {distance = distance} {first = first} {second = second} one two) deep ranges =
        (leaf_fine k _ deep (near_leaf first second distance ranges.1.0), ranges.1.1.1)
    unary_fine {k} {part} (grammar.run {w = w} read) deep ranges = (leaf_fine k part deep (plain_leaf stop w part read), ranges.1)
    unary_fine {k} {part} (grammar.text {w = w} read) deep ranges = (leaf_fine k part deep (quoted_leaf stop w part read), ranges.1)

    ands_fine : {k : ℕ} {from rest : List Lexeme} {parts : List Tree} → AreAnds stop k from parts rest → k ≤ 64 → AreInRange from → AllByRecursion (IsFine Operand k) parts × AreInRange rest
    ands_fine grammar.no_and deep ranges = (tt, ranges)
    ands_fine (grammar.and unary ands) deep ranges =
        let f = unary_fine unary deep ranges.1 in
        let g = ands_fine ands deep f.1 in
        ((f.0, g.0), g.1)

    and_fine_from : {k : ℕ} {from rest : List Lexeme} {part : Tree} → IsAnd stop k from part rest → k ≤ 64 → AreInRange from → IsFine BetweenOrs k part × AreInRange rest
    and_fine_from {k} (grammar.ands {part = first} {parts = parts} unary ands is) deep ranges =
        let f = unary_fine unary deep ranges in
        let g = ands_fine ands deep f.1 in
        (subst (IsFine BetweenOrs k) (sym is) (and_fine k first parts deep f.0 g.0), g.1)

    ors_fine : {k : ℕ} {from rest : List Lexeme} {parts : List Tree} → AreOrs stop k from parts rest → k ≤ 64 → AreInRange from → AllByRecursion (IsFine BetweenOrs k) parts × AreInRange rest
    ors_fine grammar.no_or deep ranges = (tt, ranges)
    ors_fine (grammar.or part ors) deep ranges =
        let f = and_fine_from part deep ranges.1 in
        let g = ors_fine ors deep f.1 in
        ((f.0, g.0), g.1)

    or_fine_from : {k : ℕ} {from rest : List Lexeme} {part : Tree} → IsOr stop k from part rest → k ≤ 64 → AreInRange from → IsFine Alone k part × AreInRange rest
    or_fine_from {k} (grammar.ors {part = first} {parts = parts} part ors is) deep ranges =
        let f = and_fine_from part deep ranges in
        let g = ors_fine ors deep f.1 in
        (subst (IsFine Alone k) (sym is) (or_fine k first parts deep f.0 g.0), g.1)

  pub reads_proper : (text : List ℕ) (query : Tree) → Reads stop text query → IsProper query
  reads_proper text query reads =
      let f = (or_fine_from reads.derived (omega arith) (cut_in_range reads.cut)).0 in
      let within = f.fits in
      record { shaped = f.shaped; shallow = omega arith }
