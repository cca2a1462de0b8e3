-- The name of the document of a number, by rows and by documents.
use Rattle.std.proofs.Common.{◌≡◌, ℕ, ◌+◌, ◌<◌, inl, inr, List, [], ◌∷◌, ◌++◌, Some, None, map, take, drop, get_or, length, refl, sym, ap, ap₂, ◌∙◌, suc}
use Rattle.std.specs.Prelude.{Option, slice_get, option_map}
use Rattle.std.proofs.lemmas.Bool.{cases_lt}
use Rattle.std.proofs.lemmas.List.{take-append-drop}
use Rattle.std.proofs.lemmas.List.Concat.{flat_map-append}
use Rattle.std.proofs.lemmas.Option.{slice_get-map, slice_get_past}
use Rattle.std.proofs.Math.Seq.{drop-cons}
use Rattle.ix_text.specs.Collections.{Document}
use Rattle.ix_text.specs.Parts.{DocumentRow, row_of}
use Rattle.ix_merge.proofs.Laying.{slice_get_left, slice_get_right}
use Rattle.ix_live.specs.declared.segment.Segment.{Segment}
use Rattle.ix_live.specs.Names.{name_in_rows, name_of}
use Rattle.ix_live.specs.Segments.{rows_at, rows_in}

Some_apart : {X : Type 0} {x : X} → None ≡ Some x → ⊥
Some_apart e = absurd cc

-- a name of rows in the middle of others
name_between : (xs ys zs : List DocumentRow) (k : ℕ) (name : List ℕ) → name_in_rows ys k ≡ Some name → name_in_rows (xs ++ (ys ++ zs)) (length xs + k) ≡ Some name
name_between xs ys zs k name is = elim (cases_lt k (length ys)) [
  | inl within ↦ ap (option_map (λ (row : DocumentRow). row.name)) (slice_get_right xs (ys ++ zs) (length xs + k) k refl ∙ slice_get_left ys zs k within) ∙ is
  | inr past ↦ absurd (Some_apart (sym (ap (option_map (λ (row : DocumentRow). row.name)) (slice_get_past ys k past)) ∙ is))
]

-- the rows before a place, at it and behind it
rows_parted : (segments : List (Option Segment)) (i : ℕ) (place : Option Segment) → i < length segments → place ≡ get_or segments i place → rows_in segments ≡ rows_in (take i segments) ++ (rows_at place ++ rows_in (drop (suc i) segments))
rows_parted segments i place within at =
    let rest : drop i segments ≡ place ∷ drop (suc i) segments = drop-cons segments i place within ∙ ap (λ (p : Option Segment). p ∷ drop (suc i) segments) (sym at) in
    ap rows_in (sym (take-append-drop i segments)) ∙ flat_map-append rows_at (take i segments) (drop i segments)
    ∙ ap (λ (l : List (Option Segment)). rows_in (take i segments) ++ rows_in l) rest

pub name_at_place : (segments : List (Option Segment)) (i : ℕ) (place : Option Segment) (number left : ℕ) (name : List ℕ) → i < length segments → place ≡ get_or segments i place
    → number ≡ length (rows_in (take i segments)) + left → name_in_rows (rows_at place) left ≡ Some name → name_in_rows (rows_in segments) number ≡ Some name
name_at_place segments i place number left name within at is named =
    ap (λ (rows : List DocumentRow). name_in_rows rows number) (rows_parted segments i place within at)
    ∙ ap (name_in_rows (rows_in (take i segments) ++ (rows_at place ++ rows_in (drop (suc i) segments)))) is
    ∙ name_between (rows_in (take i segments)) (rows_at place) (rows_in (drop (suc i) segments)) left name named

-- rows and documents give the same names
pub name_same : (documents : List Document) (number : ℕ) → name_in_rows (map row_of documents) number ≡ name_of documents number
name_same documents number = ap (option_map (λ (row : DocumentRow). row.name)) (slice_get-map row_of documents number) ∙ of (slice_get documents number)
  where
    of : (found : Option Document) → option_map (λ (row : DocumentRow). row.name) (option_map row_of found) ≡ option_map (λ (d : Document). d.name) found
    of None = refl
    of (Some d) = refl

pub names_same : (documents : List Document) (numbers : List ℕ) → map (name_in_rows (map row_of documents)) numbers ≡ map (name_of documents) numbers
names_same documents [] = refl
names_same documents (n ∷ ns) = ap₂ (λ (x : Option (List ℕ)) (xs : List (Option (List ℕ))). x ∷ xs) (name_same documents n) (names_same documents ns)

pub map_some : {X : Type 0} (f : X → List ℕ) (xs : List X) → map (λ name. Some name) (map f xs) ≡ map (λ x. Some (f x)) xs
map_some f [] = refl
map_some f (x ∷ xs) = ap (λ l. Some (f x) ∷ l) (map_some f xs)
