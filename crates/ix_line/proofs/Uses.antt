-- A use of an argument that is no fault leaves each row with values that its argument takes.
use Rattle.std.proofs.Common.{◌≡◌, ◌∙◌, ◌<◌, ℕ, Bool, cond, true, false, refl, sym, ap, subst, arith, List, [], ◌∷◌, ◌++◌, length, Option, Some, None, length-append}
use borrow.Author.Tests.{ltb-true}
use Rattle.std.specs.Prelude.{IsSomeAnd, nat_lt}
use Rattle.std.specs.Str.{bytes_eq}
use Rattle.std.proofs.lemmas.Slice.Eq.{bytes_eq-Decides}
use Rattle.clap.specs.Facts.{parser_of_value, unwrap_or_range}
use Rattle.clap.specs.Kinds.{range_kinds, value_kinds, values_kinds}
use Rattle.clap.specs.Walk.{Row, Rule, Text, action_of, arg_by_id, at_row, more_values, most_values, reading_by, stronger, used_as, values_or_missing, with_values, without}
use Rattle.clap.specs.Faults.{action_fault, values_fault}
use Rattle.clap.specs.declared.builder.action.ArgAction.{ArgAction}
use Rattle.clap.specs.declared.builder.action.ArgAction.TheVariants.{Set, Append, SetTrue, Help}
use Rattle.clap.specs.declared.builder.action.ArgAction.TheVariants as action
use Rattle.clap.specs.declared.builder.value_parser.ValueParser.{ValueParser}
use Rattle.clap.specs.declared.parser.matches.ValueSource.{ValueSource}
use Rattle.clap.specs.declared.parser.matches.ValueSource.TheVariants.{CommandLine}
use Rattle.ix_line.specs.Entered.{Each, RowFits, ValuesFit}
use Rattle.ix_line.proofs.EachLemmas.{each_append, neither, nor}
use Rattle.ix_line.proofs.Walks.{KeepsRows}

pub same_bytes : (a b : Text) → bytes_eq a b ≡ true → a ≡ b
same_bytes a b e = (bytes_eq-Decides a b).0 e

-- ---- rows

at_row_each : (P : Row → Type 0) (id : Text) (change : Row → List Row) (missing rows : List Row) → Each P missing → ((r : Row) → bytes_eq r.id id ≡ true → P r → Each P (change r))
    → Each P rows → Each P (at_row id change missing rows)
at_row_each P id change missing [] new old e = new
at_row_each P id change missing (r ∷ rs) new old e = go (bytes_eq r.id id) refl (at_row_each P id change missing rs new old e.1)
  where
    go : (b : Bool) → bytes_eq r.id id ≡ b → Each P (at_row id change missing rs) → Each P (cond b (change r ++ rs) (r ∷ at_row id change missing rs))
    go true same rest = each_append P (change r) rs (old r same e.0) e.1
    go false other rest = (e.0, rest)

values_append : (ignore_case : Bool) (parser : ValueParser) (xs ys : List Text) → values_kinds ignore_case parser xs ≡ [] → values_kinds ignore_case parser ys ≡ []
    → values_kinds ignore_case parser (xs ++ ys) ≡ []
values_append ignore_case parser [] ys e f = f
values_append ignore_case parser (x ∷ xs) ys e f =
    let parts = neither (value_kinds ignore_case parser x) _ e in
    nor (value_kinds ignore_case parser x) _ parts.0 (values_append ignore_case parser xs ys parts.1 f)

module _ (c : List Rule) (a : Rule) (self : arg_by_id c a.id ≡ Some a) where
  -- a row with the id of the argument belongs to it
  own_row : (r : Row) → arg_by_id c r.id ≡ Some a → ValuesFit a r → RowFits c r
  own_row r own fits = subst (λ (o : Option Rule). IsSomeAnd o (λ b. ValuesFit b r)) (sym own) fits

  -- one more use adds to the values of the row
  more_fit : (source : ValueSource) (values : List Text) (r : Row) → values_fault a values ≡ [] → bytes_eq r.id a.id ≡ true → RowFits c r → Each (RowFits c) (more_values source values r)
  more_fit source values r pass same fits =
      let own : arg_by_id c r.id ≡ Some a = ap (arg_by_id c) (same_bytes r.id a.id same) ∙ self in
      let old = subst (λ (o : Option Rule). IsSomeAnd o (λ b. ValuesFit b r)) own fits in
      let more : Row = record r { values = r.values ++ values; source = Some (stronger r.source source) } in (
        own_row more own (record {
          some = omega (arith, length-append r.values values, old.some);
          pass = values_append a.ignore_case (parser_of_value a.parser) r.values values old.pass pass;
          read = old.read;
        }),
        tt,
      )

  pub with_values_fit : (source : ValueSource) (values : List Text) (rows : List Row) → 0 < length values → values_fault a values ≡ [] → Each (RowFits c) rows
      → Each (RowFits c) (with_values a.id (reading_by a) source values rows)
  with_values_fit source values rows some pass fits =
      let first : Row = record { id = a.id; values = values; count = None; source = Some source; reading = reading_by a } in
      at_row_each (RowFits c) a.id (more_values source values) (first ∷ []) rows (own_row first self (record { some = some; pass = pass; read = refl }), tt)
      (λ r same old. more_fit source values r pass same old) fits

  without_fits : (rows : List Row) → Each (RowFits c) rows → Each (RowFits c) (without a.id rows)
  without_fits rows fits = at_row_each (RowFits c) a.id (λ _. []) [] rows tt (λ r same old. tt) fits

-- ---- the arguments of which this is so

-- a use of the argument has a value, or is a fault
abbrev pub has_values_by : ArgAction → ℕ → ℕ → Bool
has_values_by Set least missing = nat_lt 0 least
has_values_by Append least missing = nat_lt 0 least
has_values_by SetTrue least missing = nat_lt 0 missing
has_values_by Help least missing = true
has_values_by _ least missing = false

abbrev pub has_values : Rule → Bool
has_values a = has_values_by (action_of a) (unwrap_or_range a.range).start_inclusive (length a.missing)

some_values : (least most : ℕ) (values : List Text) → nat_lt 0 least ≡ true → range_kinds least most (length values) ≡ [] → 0 < length values
some_values least most [] wants e =
    let bad = rw wants at e in
    cc
some_values least most (v ∷ vs) wants e = omega arith

given_values : (a : Rule) (values : List Text) → 0 < length values → 0 < length (values_or_missing a values)
given_values a [] some = absurd (omega arith)
given_values a (v ∷ vs) some = some

-- a use with no value has those that stand for it
missing_values : (a : Rule) (values : List Text) → nat_lt 0 (length a.missing) ≡ true → 0 < length (values_or_missing a values)
missing_values a [] wants = ltb-true _ _ wants
missing_values a (v ∷ vs) wants = omega arith

pub uses_fit : (c : List Rule) (again : Bool) (a : Rule) → arg_by_id c a.id ≡ Some a → has_values a ≡ true → KeepsRows (Each (RowFits c)) again a
uses_fit c again a self usual values rows e fits =
    let parts = neither _ _ e in
    go (action_of a) usual parts.0 parts.1
  where
    go : (x : ArgAction) → has_values_by x (unwrap_or_range a.range).start_inclusive (length a.missing) ≡ true
        → range_kinds (unwrap_or_range a.range).start_inclusive (most_values a) (length values) ≡ []
        → action_fault x again a (values_or_missing a values) rows ≡ []
        → Each (RowFits c) (used_as x a.id (reading_by a) (values_or_missing a values) rows)
    go Set least range fault =
        with_values_fit c a self CommandLine (values_or_missing a values) (without a.id rows) (given_values a values (some_values _ _ values least range)) (neither _ _ fault).1
        (without_fits c a self rows fits)
    go SetTrue least range fault =
        with_values_fit c a self CommandLine (values_or_missing a values) (without a.id rows) (missing_values a values least) (neither _ _ fault).1 (without_fits c a self rows fits)
    go Append least range fault =
        with_values_fit c a self CommandLine (values_or_missing a values) rows (given_values a values (some_values _ _ values least range)) fault fits
    go Help least range fault = cc
    go action.HelpShort least range fault = cc
    go action.HelpLong least range fault = cc
    go action.Version least range fault = cc
    go action.SetFalse least range fault = cc
    go action.Count least range fault = cc
