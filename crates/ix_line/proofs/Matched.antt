-- What a parse of the words tells of the program's commands.
use Rattle.std.proofs.Common.{◌≡◌, ◌∙◌, ap, refl, sym, subst, true, ⊎_elim, List, [], Option, Some, None, Result, Ok, Err, IsErrAnd, IfErr}
use Rattle.std.specs.Prelude.{IsSome, IsSomeAnd}
use Rattle.clap.specs.Kinds.{HasKind}
use Rattle.clap.specs.Faults.{fault_of, is_simple_and_free}
use Rattle.clap.specs.Simple.{App, HasMatchesOf, is_simple, subcommand_of, subcommand_rows_of}
use Rattle.clap.specs.Walk.{Row, Text}
use Rattle.clap.specs.declared.error.Error.{Error}
use Rattle.clap.specs.declared.parser.matches.ArgMatches.{ArgMatches}
use Rattle.ix_line.specs.Commands.{ix_app, ix_built}
use Rattle.ix_line.specs.Entered.{Entered}
use Rattle.ix_line.specs.LineErrors.{SortsError}
use Rattle.ix_line.specs.Lines.{IsMatched, Names, Refuses, RefusesRows}
use Rattle.ix_line.specs.declared.error.LineError.{LineError}
use Rattle.ix_line.specs.declared.error.LineError.TheVariants.{Both, Clap, Memory, NamesOrList}
use Rattle.ix_line.proofs.EachLemmas.{both}
use Rattle.ix_line.proofs.NoFault.{entered_unless_fault, is_usual_app}

is_free : is_simple_and_free ix_app ≡ true
unfolding ix_app
is_free = refl

ix_usual : is_usual_app ix_built ≡ true
unfolding ix_app
ix_usual = refl

-- matches with no fault
pub matched : (a : App) (words : List Text) (m : ArgMatches) → a ≡ ix_app → (is_simple_and_free a ≡ true → fault_of a words ≡ []) → HasMatchesOf a words m → IsMatched words m
matched a words m is faultless matches =
    let free : is_simple_and_free a ≡ true = ap is_simple_and_free is ∙ is_free in (
      sym (ap (λ b. fault_of b words) is) ∙ faultless free,
      (matches (both (is_simple a) _ free).0).1 ∙ ap (λ b. subcommand_of b words) is,
    )

-- an error of `clap` is one of its faults, or want of memory
pub refused : (a : App) (words : List Text) (e : Error) (r : LineError) → a ≡ ix_app → (is_simple_and_free a ≡ true → HasKind (fault_of a words) e) → SortsError e r → Refuses words r
refused a words e r is fails sorts =
    let kinds = subst (λ b. HasKind (fault_of b words) e) is (fails (ap is_simple_and_free is ∙ is_free)) in
    ⊎_elim (λ memory. subst (Refuses words) (sym memory.1) tt)
    (λ other. subst (Refuses words) (sym other.1) (⊎_elim (λ want. absurd (other.0 want)) (λ among. among) kinds)) sorts

pub refused_up : {T : Type 0} (result : Result T LineError) (a : App) (words : List Text) (e : Error) → a ≡ ix_app
    → (is_simple_and_free a ≡ true → HasKind (fault_of a words) e) → IsErrAnd result (SortsError e) → IfErr result (Refuses words)
refused_up (Ok x) a words e is fails err = tt
refused_up (Err r) a words e is fails err = refused a words e r is fails err

-- matches with no fault are those of a command that fits them
pub named : (words : List Text) (m : ArgMatches) → IsMatched words m → IsSomeAnd (subcommand_rows_of m) (λ q. Entered ix_built q.0 q.1)
named words m is = subst (λ o. IsSomeAnd o (λ q. Entered ix_built q.0 q.1)) (sym is.1) (entered_unless_fault ix_app words ix_usual is.0)

-- why a command's rows are no line is why the words are none
pub refuses_named : (words : List Text) (name : Text) (rows : List Row) (e : LineError) → Names words name rows → RefusesRows name rows e → Refuses words e
refuses_named words name rows (Clap error) names refuses = absurd refuses
refuses_named words name rows Memory names refuses = tt
refuses_named words name rows Both names refuses = (name, rows, names, refuses)
refuses_named words name rows NamesOrList names refuses = (name, rows, names, refuses)

pub rows_refused_up : {T : Type 0} (result : Result T LineError) (words : List Text) (name : Text) (rows : List Row) (e : LineError) → Names words name rows → RefusesRows name rows e
    → IsErrAnd result (λ r. r ≡ e) → IfErr result (Refuses words)
rows_refused_up (Ok x) words name rows e names refuses is = tt
rows_refused_up (Err r) words name rows e names refuses is = refuses_named words name rows r names (subst (RefusesRows name rows) (sym is) refuses)

pub is_there : {X : Type 0} (P : X → Type 0) (o : Option X) → IsSomeAnd o P → IsSome o
is_there P None h = absurd h
is_there P (Some x) h = refl
