-- What a reader of a field knows of the rows of a command that was entered.
use Rattle.std.proofs.Common.{◌≡◌, ◌∙◌, ◌<◌, ◌||◌, ap, Bool, cond, true, false, refl, subst, sym, arith, true≢false, List, [], ◌∷◌, length, Option, Some, None}
use Rattle.std.specs.Prelude.{IfSome, IsSome, IsSomeAnd, find, option_and_then, option_map, slice_get}
use Rattle.std.specs.Option.{option_map_or}
use Rattle.std.specs.Str.{bytes_eq}
use Rattle.clap.specs.Facts.{Entry, explicit_source}
use Rattle.clap.specs.Matches.{matched_of}
use Rattle.clap.specs.Simple.{App, Shape, label_of}
use Rattle.clap.specs.Walk.{Row, Rule, Text, all_of, answers_to, arg_by_id, first_of, row_of, rows_of}
use Rattle.clap.specs.declared.parser.matches.Found.{Found}
use Rattle.clap.specs.declared.parser.matches.MatchedArg.{MatchedArg}
use Rattle.clap.proofs.WalkLemmas.{find_row}
use Rattle.clap.specs.Takes.{is_given}
use Rattle.ix_line.specs.Entered.{Each, Entered, FitsShape, RowFits, ValuesFit}
use Rattle.ix_line.specs.Lines.{source_of}
use Rattle.ix_line.proofs.EachLemmas.{found}
use Rattle.ix_line.proofs.Uses.{same_bytes}

-- the argument with this id has to be there
abbrev pub wants_id : Shape → Text → Bool
wants_id s id = option_map_or (λ a. a.required) (arg_by_id s.rules id) false

abbrev pub wants : App → Text → Text → Bool
wants app name id = option_map_or (λ s. wants_id s id) (find (λ s. answers_to name (label_of s)) app.subs) false

has_value : (rules : List Rule) (r : Row) → RowFits rules r → 0 < length r.values
has_value rules r fits = go (arg_by_id rules r.id) fits
  where
    go : (o : Option Rule) → IsSomeAnd o (λ a. ValuesFit a r) → 0 < length r.values
    go None h = absurd h
    go (Some a) h = h.some

first_value : (values : List Text) → 0 < length values → IsSome (slice_get values 0)
first_value [] lt = absurd (omega arith)
first_value (v ∷ vs) lt = refl

required_given : (s : Shape) (rows : List Row) (id : Text) → FitsShape s rows → wants_id s id ≡ true → IsSome (first_of id rows)
required_given s rows id fits wanted =
    row (find (λ r. bytes_eq r.id id) rows) (found (RowFits s.rules) (λ r. bytes_eq r.id id) rows fits.fits)
    (given (arg_by_id s.rules id) (found _ (λ a. bytes_eq a.id id) s.rules fits.required) wanted)
  where
    given : (o : Option Rule) → IfSome o (λ a. (a.required ≡ true → is_given a.id rows ≡ true) × (bytes_eq a.id id ≡ true)) → option_map_or (λ a. a.required) o false ≡ true
        → is_given id rows ≡ true
    given None known e = absurd (true≢false (sym e))
    given (Some a) known e = subst (λ (t : Text). is_given t rows ≡ true) (same_bytes a.id id known.1) (known.0 e)

    row : (o : Option Row) → IfSome o (λ r. RowFits s.rules r × (bytes_eq r.id id ≡ true)) → option_map_or (λ r. explicit_source r.source) o false ≡ true
        → IsSome (option_and_then (λ r. slice_get r.values 0) o)
    row None known e = absurd (true≢false (sym e))
    row (Some r) known e = first_value r.values (has_value s.rules r known.0)

-- an argument that has to be there has a first value
pub operand_given : (app : App) (name id : Text) (rows : List Row) → wants app name id ≡ true → Entered app name rows → IsSome (first_of id rows)
operand_given app name id rows wanted is = go (find (λ s. answers_to name (label_of s)) app.subs) is wanted
  where
    go : (o : Option Shape) → IsSomeAnd o (λ s. FitsShape s rows) → option_map_or (λ s. wants_id s id) o false ≡ true → IsSome (first_of id rows)
    go None known e = absurd known
    go (Some s) known e = required_given s rows id known e

-- such an argument has a list of values
pub operands_given : (app : App) (name id : Text) (rows : List Row) → wants app name id ≡ true → Entered app name rows → IsSome (all_of id rows)
operands_given app name id rows wanted is = go (find (λ r. bytes_eq r.id id) rows) (operand_given app name id rows wanted is)
  where
    go : (o : Option Row) → IsSome (option_and_then (λ r. slice_get r.values 0) o) → IsSome (option_map (λ r. r.values) o)
    go None some = absurd (true≢false (sym some))
    go (Some r) some = refl

-- a name that no command answers to is not entered
pub not_entered : (app : App) (name : Text) (rows : List Row) → Each (λ s. answers_to name (label_of s) ≡ false) app.subs → Entered app name rows → ⊥
not_entered app name rows none is = go app.subs none is
  where
    next : (b : Bool) (s : Shape) (o : Option Shape) → b ≡ false → IsSomeAnd (cond b (Some s) o) (λ t. FitsShape t rows) → IsSomeAnd o (λ t. FitsShape t rows)
    next true s o e h = absurd (true≢false e)
    next false s o e h = h

    go : (subs : List Shape) → Each (λ s. answers_to name (label_of s) ≡ false) subs → IsSomeAnd (find (λ s. answers_to name (label_of s)) subs) (λ s. FitsShape s rows) → ⊥
    go [] others h = h
    go (s ∷ rest) others h = go rest others.1 (next (answers_to name (label_of s)) s (find (λ t. answers_to name (label_of t)) rest) others.0 h)

-- a command with no alias answers to no other name than its own
pub another : (own name : Text) → (name ≡ own → ⊥) → (bytes_eq own name || false) ≡ false
another own name other = go (bytes_eq own name) refl
  where
    go : (b : Bool) → bytes_eq own name ≡ b → (b || false) ≡ false
    go true same = absurd (other (sym (same_bytes own name same)))
    go false e = refl

-- where the value of an argument comes from is said by its row
pub source-rows : (f : Found) (id : Text) → option_and_then (λ (a : MatchedArg). a.source) (matched_of f id) ≡ source_of id (rows_of f)
source-rows f id = go (find (λ e. bytes_eq e.0.now id) f.entries.items) ∙ ap (option_and_then (λ (r : Row). r.source)) (sym (find_row f.entries.items id))
  where
    go : (o : Option Entry) → option_and_then (λ (a : MatchedArg). a.source) (option_map (λ e. e.1) o) ≡ option_and_then (λ (r : Row). r.source) (option_map row_of o)
    go None = refl
    go (Some e) = refl
