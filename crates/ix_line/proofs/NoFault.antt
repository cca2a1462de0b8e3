-- Where `clap` finds no fault with the words, they name a command, and its matches fit it.
use Rattle.std.proofs.Common.{◌≡◌, ◌∙◌, ◌&&◌, ◌||◌, Bool, cond, true, false, not, refl, sym, subst, arith, true≢false, List, [], ◌∷◌, Option, Some, None, option_map, is_some}
use Rattle.std.specs.Prelude.{IfSome, IsSome, IsSomeAnd, find, fold}
use Rattle.std.specs.List.{list_all, list_any}
use Rattle.std.specs.Option.{option_map_or}
use Rattle.std.specs.Str.{bytes_eq}
use Rattle.clap.specs.Kinds.{check_kinds, request_kinds}
use Rattle.clap.specs.Simple.{App, Shape, argument_words, built, entered, label_of, names_of, rows_at, subcommand_of}
use Rattle.clap.specs.Walk.{Row, Rule, Text, answers_to, action_of, arg_by_id, default_rows, finished, has_row, is_empty, nothing_held, reading_by, rows_after, settled, walk, walk_from, with_default}
use Rattle.clap.specs.Faults.{default_fault, defaults_fault, entered_fault, fault_of, given_default_fault, level_fault, settle_fault, values_fault, walk_fault}
use Rattle.clap.specs.Takes.{is_given}
use Rattle.clap.specs.declared.parser.matches.ValueSource.TheVariants.{DefaultValue}
use Rattle.clap.proofs.SimpleLemmas.{is_nil}
use Rattle.ix_line.specs.Entered.{Each, Entered, FitsShape, RowFits}
use Rattle.ix_line.proofs.EachLemmas.{FindsItself, both, each_as, each_both, finds_itself, found, from_all, neither, unlike}
use Rattle.ix_line.proofs.Walks.{KeepsRows, settled_keeps, walk_keeps}
use Rattle.ix_line.proofs.Uses.{has_values, uses_fit, with_values_fit}

-- ---- the commands of which this is so

abbrev pub same_id : Rule → Rule → Bool
same_id a b = bytes_eq a.id b.id

-- each argument takes a value, is a flag or asks for help, and has its own id
abbrev pub is_usual : Shape → Bool
is_usual s = list_all has_values s.rules && unlike same_id s.rules

abbrev pub same_name : Shape → Shape → Bool
same_name s t = answers_to t.name (label_of s)

-- one of the commands below has to be named, and each has its own name
abbrev pub is_usual_app : App → Bool
is_usual_app a = a.top.subcommand_required && (list_all is_usual a.subs && unlike same_name a.subs)

-- ---- after the walk

-- default values that are no fault pass
some_pass : (a : Rule) (v : Text) (vs : List Text) → cond (is_empty (v ∷ vs)) [] (given_default_fault a (v ∷ vs)) ≡ [] → values_fault a (v ∷ vs) ≡ []
some_pass a v vs none = go (is_empty (v ∷ vs)) refl none
  where
    go : (b : Bool) → is_empty (v ∷ vs) ≡ b → cond b [] (given_default_fault a (v ∷ vs)) ≡ [] → values_fault a (v ∷ vs) ≡ []
    go true empty e = let nothing = is_nil (v ∷ vs) empty in cc
    go false some e = (neither (request_kinds (action_of a)) (values_fault a (v ∷ vs)) e).1

-- a default that is no fault leaves each row with values that its argument takes
default_fits : (c : List Rule) (a : Rule) (rows : List Row) → arg_by_id c a.id ≡ Some a → default_fault rows a ≡ [] → Each (RowFits c) rows → Each (RowFits c) (with_default rows a)
default_fits c a rows self e fits = go (has_row a.id rows) e
  where
    values : (ds : List Text) → cond (is_empty ds) [] (given_default_fault a ds) ≡ [] → Each (RowFits c) (default_rows a.id (reading_by a) ds rows)
    values [] none = fits
    values (v ∷ vs) none = with_values_fit c a self DefaultValue (v ∷ vs) rows (omega arith) (some_pass a v vs none) fits

    go : (b : Bool) → cond (b || is_empty a.defaults) [] (given_default_fault a a.defaults) ≡ [] → Each (RowFits c) (cond b rows (default_rows a.id (reading_by a) a.defaults rows))
    go true none = fits
    go false none = values a.defaults none

defaults_fit : (c xs : List Rule) (rows : List Row) → Each (FindsItself same_id c) xs → defaults_fault rows xs ≡ [] → Each (RowFits c) rows → Each (RowFits c) (fold with_default rows xs)
unfolding defaults_fault
defaults_fit c [] rows own e fits = fits
defaults_fit c (a ∷ xs) rows own e fits =
    let parts = neither (default_fault rows a) _ e in
    defaults_fit c xs (with_default rows a) own.1 parts.1 (default_fits c a rows own.0 parts.0 fits)

none_wanted : (a b c : Bool) → check_kinds a b c ≡ [] → (b ≡ false) × (c ≡ false)
none_wanted true b c e = cc
none_wanted false true c e = cc
none_wanted false false true e = cc
none_wanted false false false e = (refl, refl)

none_missing : (negates missing : Bool) → (not (negates && false) && missing) ≡ false → missing ≡ false
none_missing true missing e = e
none_missing false missing e = e

each_given : (rows : List Row) (xs : List Rule) → list_any (λ a. a.required && not (is_given a.id rows)) xs ≡ false
    → Each (λ a. a.required ≡ true → is_given a.id rows ≡ true) xs
each_given rows [] e = tt
each_given rows (a ∷ xs) e =
    let parts = split _ _ e in
    (given a.required (is_given a.id rows) parts.0, each_given rows xs parts.1)
  where
    split : (a b : Bool) → (a || b) ≡ false → (a ≡ false) × (b ≡ false)
    split true b h = absurd (true≢false h)
    split false b h = (refl, h)

    given : (required is : Bool) → (required && not is) ≡ false → required ≡ true → is ≡ true
    given required true h wants = refl
    given true false h wants = absurd (true≢false h)
    given false false h wants = absurd (true≢false (sym wants))

-- ---- one level

uses_of : (s : Shape) → is_usual s ≡ true → Each (KeepsRows (Each (RowFits s.rules)) s.args_override_self) s.rules
uses_of s usual =
    let parts = both _ _ usual in
    each_as (λ a. (has_values a ≡ true) × FindsItself same_id s.rules a) _ s.rules
    (λ a h. uses_fit s.rules s.args_override_self a h.1 h.0)
    (each_both _ _ s.rules (from_all has_values s.rules parts.0) (finds_itself same_id s.rules parts.1))

level_fits : (s : Shape) (words : List Text) → is_usual s ≡ true → level_fault s [] nothing_held words false [] ≡ [] → FitsShape s (rows_after s.rules [] words)
level_fits s words usual e =
    let end = (walk s.rules [] nothing_held words).held in
    let walks = neither (walk_fault s [] (walk_from nothing_held) words) _ e in
    let settles = neither (settle_fault s.rules s.args_override_self end) _ walks.1 in
    let defaults = neither (defaults_fault (settled s.rules end).rows s.rules) _ settles.1 in
    let uses = uses_of s usual in
    record {
      fits = defaults_fit s.rules s.rules (settled s.rules end).rows (finds_itself same_id s.rules (both _ _ usual).1) defaults.0
          (settled_keeps s.rules s.args_override_self (Each (RowFits s.rules)) uses end settles.0
          (walk_keeps s [] (Each (RowFits s.rules)) uses words (walk_from nothing_held) walks.0 tt));
      required = each_given (finished s.rules end) s.rules (none_missing s.subcommand_negates_reqs _ (none_wanted _ _ _ defaults.1).1);
    }

-- ---- the command that was entered

entered_fits : (a : App) (stop : Option (Text × List Text)) → list_all is_usual a.subs ≡ true → unlike same_name a.subs ≡ true → entered_fault a stop ≡ []
    → IsSome (entered a stop) → IsSomeAnd (entered a stop) (λ q. Entered a q.0 q.1)
entered_fits a None usual apart e some = absurd (true≢false (sym some))
entered_fits a (Some p) usual apart e some =
    go (find (λ s. answers_to p.0 (label_of s)) a.subs) (found _ _ a.subs (each_both _ _ a.subs (from_all is_usual a.subs usual) (finds_itself same_name a.subs apart))) e some
  where
    go : (o : Option Shape) → IfSome o (λ s. ((is_usual s ≡ true) × FindsItself same_name a.subs s) × (answers_to p.0 (label_of s) ≡ true))
        → option_map_or (λ s. level_fault s [] nothing_held p.1 false []) o [] ≡ [] → IsSome (option_map (λ s. rows_at s p.1) o)
        → IsSomeAnd (option_map (λ s. rows_at s p.1) o) (λ q. Entered a q.0 q.1)
    go None known fault is = absurd (true≢false (sym is))
    go (Some s) known fault is =
        subst (λ (o : Option Shape). IsSomeAnd o (λ t. FitsShape t (rows_after s.rules [] p.1))) (sym known.0.1) (level_fits s p.1 known.0.0 fault)

is_entered : (has required : Bool) → (not has && required) ≡ false → required ≡ true → has ≡ true
is_entered true required e wants = refl
is_entered false required e wants = absurd (true≢false (sym wants ∙ e))

-- the words name a command, and its matches fit it
pub entered_unless_fault : (a : App) (words : List Text) → is_usual_app (built a) ≡ true → fault_of a words ≡ []
    → IsSomeAnd (subcommand_of a words) (λ q. Entered (built a) q.0 q.1)
entered_unless_fault a words usual e = go (built a) (argument_words a words) usual e
  where
    go : (b : App) (rest : List Text) → is_usual_app b ≡ true
        → level_fault b.top (names_of b) nothing_held rest (is_some (entered b (walk b.top.rules (names_of b) nothing_held rest).stopped))
        (entered_fault b (walk b.top.rules (names_of b) nothing_held rest).stopped) ≡ []
        → IsSomeAnd (entered b (walk b.top.rules (names_of b) nothing_held rest).stopped) (λ q. Entered b q.0 q.1)
    go b rest is fault =
        let end = (walk b.top.rules (names_of b) nothing_held rest).held in
        let stop = (walk b.top.rules (names_of b) nothing_held rest).stopped in
        let walks = neither (walk_fault b.top (names_of b) (walk_from nothing_held) rest) _ fault in
        let below = neither (entered_fault b stop) _ walks.1 in
        let settles = neither (settle_fault b.top.rules b.top.args_override_self end) _ below.1 in
        let defaults = neither (defaults_fault (settled b.top.rules end).rows b.top.rules) _ settles.1 in
        let tests = both b.top.subcommand_required _ is in
        let subs = both (list_all is_usual b.subs) _ tests.1 in
        let has = is_entered (is_some (entered b stop)) b.top.subcommand_required (none_wanted _ _ _ defaults.1).0 tests.0 in
        entered_fits b stop subs.0 subs.1 below.0 has
