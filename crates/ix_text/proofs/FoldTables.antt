-- Facts of the tables of canonical decomposition and of case folding, each shown by a computation over the whole table.
use Rattle.std.proofs.Common.{◌≡◌, ℕ, Bool, true, false, cond, not, ◌&&◌, ◌||◌, ◌==◌, List, flat_map, refl, ap, ◌∙◌}
use Rattle.std.specs.List.{list_all}
use lib.Utf8.{scalar}
use Rattle.ucd_table.proofs.GroupsCheck.{same_string, same_string-true}
use Rattle.ucd_table.proofs.Stepped.{Stepped}
use Rattle.ucd_table.proofs.Facts.{tree_value, tree_of, tree_value-tree_of}
use Rattle.ucd_table.proofs.RangedFacts.{points_ok, values_ok, Stepped-at_points, Stepped-at_values}
use Rattle.ucd_table.proofs.Computing.{tables}
use Rattle.ucd_case.specs.CaseFolding.{full_folding, or_itself as or_unfolded}
use Rattle.ucd_case.proofs.CaseFoldingLemmas.{full_folding_stepped}
use Rattle.ucd_normal.specs.CanonicalCombiningClass.{canonical_combining_class as ccc}
use Rattle.ucd_normal.specs.Decomposition.{decomposition, if_canonical, or_itself, expand, canonical_decomposition}
use Rattle.ucd_normal.proofs.CanonicalCombiningClassLemmas.{canonical_combining_class_stepped}
use Rattle.ucd_normal.proofs.CompositionLemmas.{is_empty}
use Rattle.ucd_normal.proofs.DecompositionLemmas.{decomposition_stepped, canonical_decomposition_stepped}
use Rattle.unicode_normalization.specs.Hangul.{is_among, is_syllable, decompose_hangul}
use Rattle.ix_text.specs.IotaSubscript.{may_hold_iota}

-- the tables as functions, which a test may read by a tree
pub record Tables : Type 0 where
  pub parts : ℕ → List ℕ
  pub folds : ℕ → List ℕ
  pub class : ℕ → ℕ

abbrev pub by_rows : Tables
by_rows = record { parts = canonical_decomposition; folds = full_folding; class = ccc }

abbrev by_tree : {V : Type 0} (f : ℕ → V) → Stepped f → ℕ → V
by_tree f s = tree_value s.default (tree_of f s)

by_trees : Tables
unfolding tables points_ok values_ok expand decomposition_stepped canonical_decomposition_stepped full_folding_stepped canonical_combining_class_stepped
by_trees =
    record {
      parts = by_tree canonical_decomposition canonical_decomposition_stepped;
      folds = by_tree full_folding full_folding_stepped;
      class = by_tree ccc canonical_combining_class_stepped;
    }

same_tables : by_rows ≡ by_trees
unfolding by_trees
same_tables =
    λ i. record {
      parts = tree_value-tree_of canonical_decomposition canonical_decomposition_stepped i;
      folds = tree_value-tree_of full_folding full_folding_stepped i;
      class = tree_value-tree_of ccc canonical_combining_class_stepped i;
    }

-- what a character decomposes to, and what it folds to
abbrev pub parts_by : Tables → ℕ → List ℕ
parts_by t c = cond (is_syllable c) (decompose_hangul c) (or_itself c (t.parts c))

abbrev pub fold_by : Tables → ℕ → List ℕ
fold_by t c = or_unfolded c (t.folds c)

-- the folding of the parts has the parts of the folding
abbrev pub agrees : Tables → ℕ → List ℕ → Bool
agrees t c parts = same_string (flat_map (parts_by t) (flat_map (fold_by t) parts)) (flat_map (parts_by t) (fold_by t c))

pub folding_agrees : (c : ℕ) → is_empty (canonical_decomposition c) ≡ false
    → flat_map (parts_by by_rows) (flat_map (fold_by by_rows) (canonical_decomposition c)) ≡ flat_map (parts_by by_rows) (fold_by by_rows c)
unfolding by_trees
folding_agrees c some =
    same_string-true _ _
    (ap (λ t. agrees t c (canonical_decomposition c)) same_tables
    ∙ Stepped-at_points canonical_decomposition canonical_decomposition_stepped is_empty (agrees by_trees) refl c some)

-- no mark folds but U+0345
pub folding_starter : (c : ℕ) → is_empty (full_folding c) ≡ false → (ccc c == 0 || c == 0x345) ≡ true
unfolding by_trees
folding_starter c some =
    ap (λ t. t.class c == 0 || c == 0x345) same_tables
    ∙ Stepped-at_points full_folding full_folding_stepped is_empty (λ x folds. by_trees.class x == 0 || x == 0x345) refl c some

-- no jamo and no syllable folds
pub folding_no_hangul : (c : ℕ) → is_empty (full_folding c) ≡ false → (not (is_among 0x1100 0x100 c) && not (is_syllable c)) ≡ true
unfolding by_trees
folding_no_hangul = Stepped-at_points full_folding full_folding_stepped is_empty (λ x folds. not (is_among 0x1100 0x100 x) && not (is_syllable x)) refl

-- U+0345 comes from few characters
abbrev pub is_no_iota : ℕ → Bool
is_no_iota c = not (c == 0x345)

pub parts_no_iota : (c : ℕ) → is_empty (canonical_decomposition c) ≡ false → (may_hold_iota c || list_all is_no_iota (canonical_decomposition c)) ≡ true
unfolding by_trees
parts_no_iota = Stepped-at_points canonical_decomposition canonical_decomposition_stepped is_empty (λ x parts. may_hold_iota x || list_all is_no_iota parts) refl

-- ---- all that the tables hold are characters

pub folding_scalars : (c : ℕ) → list_all scalar (full_folding c) ≡ true
unfolding by_trees
folding_scalars = Stepped-at_values full_folding full_folding_stepped (list_all scalar) refl

pub parts_scalars : (c : ℕ) → list_all scalar (canonical_decomposition c) ≡ true
unfolding by_trees
parts_scalars = Stepped-at_values canonical_decomposition canonical_decomposition_stepped (list_all scalar) refl

pub mapped_scalar : (c : ℕ) → is_empty (if_canonical (decomposition c)) ≡ false → scalar c ≡ true
unfolding by_trees
mapped_scalar = Stepped-at_points decomposition decomposition_stepped (λ e. is_empty (if_canonical e)) (λ x e. scalar x) refl
