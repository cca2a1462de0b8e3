-- The number that an option gives, once `clap` found no fault.
use Rattle.std.proofs.Common.{◌≡◌, ◌∙◌, ℕ, ◌^◌, ◌<◌, ◌≤◌, inl, inr, arith, Bool, cond, true, false, sym, ap, subst, refl, List, [], ◌∷◌, Option, Some, None, Result, Ok}
use Rattle.std.specs.Prelude.{IfSome, IsSomeAnd, find, option_and_then, option_map, pos, slice_get}
use Rattle.std.specs.Str.{bytes_eq}
use Rattle.std.specs.Str.Parse.{ParsesUnsigned}
use Rattle.std.proofs.lemmas.Bool.{cases_lt}
use Rattle.clap.specs.Facts.{parser_of_value}
use Rattle.clap.specs.Kinds.{value_kinds, values_kinds}
use Rattle.clap.specs.Lexer.{without_minus}
use Rattle.clap.specs.Matches.{ReadsOne}
use Rattle.clap.specs.Simple.{App, Shape, label_of}
use Rattle.clap.specs.ValueTests.{accepts}
use Rattle.clap.specs.Values.{IsSignedIn, read_as, reading_of}
use Rattle.clap.specs.Walk.{Row, Rule, Text, answers_to, arg_by_id, one_of, row_text}
use Rattle.clap.specs.declared.builder.value_parser.Reading.{Reading}
use Rattle.clap.specs.declared.builder.value_parser.Reading.TheVariants as reading
use Rattle.clap.specs.declared.builder.value_parser.ValueParser.{ValueParser}
use Rattle.clap.specs.declared.builder.value_parser.ValueParser.TheVariants.{Signed}
use Rattle.clap.specs.declared.error.kind.ErrorKind.{ErrorKind}
use Rattle.clap.proofs.CallerReads.{signed_reads}
use Rattle.clap.proofs.ValueTestLemmas.{accepts-Accepts}
use Rattle.ix_line.specs.Entered.{Entered, FitsShape, RowFits, ValuesFit}
use Rattle.ix_line.specs.Lines.{IsNumberIn, IsNumberText, number_of}
use Rattle.ix_line.proofs.EachLemmas.{found, neither}
use Rattle.ix_line.proofs.Uses.{same_bytes}

-- ---- what the words give

-- the parser of the argument with this id, of the command of this name
abbrev pub parser_in : Shape → Text → Option ValueParser
parser_in s id = option_and_then (λ a. a.parser) (arg_by_id s.rules id)

abbrev pub parser_at : App → Text → Text → Option ValueParser
parser_at app name id = option_and_then (λ s. parser_in s id) (find (λ s. answers_to name (label_of s)) app.subs)

passes : (test : Bool) (kind : ErrorKind) → cond test [] (kind ∷ []) ≡ [] → test ≡ true
passes true kind e = cc
passes false kind e = cc

-- the first value of a row that fits such an argument
first_text : (P : Text → Type 0) (low high : ℕ) (a : Rule) (r : Row) → ((word : Text) → IsSignedIn (pos low) (pos high) word → P (without_minus word)) → a.parser ≡ Some (Signed (pos low) (pos high)) → ValuesFit a r
    → IfSome (row_text r) P
first_text P low high a r such is fits = go r.values (subst (λ (p : ValueParser). values_kinds a.ignore_case p r.values ≡ []) parser fits.pass)
  where
    parser : parser_of_value a.parser ≡ Signed (pos low) (pos high)
    parser = ap parser_of_value is

    how : r.reading ≡ reading.WithoutMinus
    how = fits.read ∙ ap reading_of parser

    go : (values : List Text) → values_kinds a.ignore_case (Signed (pos low) (pos high)) values ≡ [] → IfSome (option_map (read_as r.reading) (slice_get values 0)) P
    go [] none = tt
    go (v ∷ vs) none =
        let one = (neither (value_kinds a.ignore_case (Signed (pos low) (pos high)) v) _ none).0 in
        let accepted = passes (accepts a.ignore_case (Signed (pos low) (pos high)) v) _ one in
        subst P (sym (ap (λ (h : Reading). read_as h v) how)) (such v (accepts-Accepts a.ignore_case (Signed (pos low) (pos high)) v accepted))

given_in : (P : Text → Type 0) (s : Shape) (rows : List Row) (id : Text) (low high : ℕ) → ((word : Text) → IsSignedIn (pos low) (pos high) word → P (without_minus word)) → FitsShape s rows
    → parser_in s id ≡ Some (Signed (pos low) (pos high)) → IfSome (one_of id rows) P
given_in P s rows id low high such fits is = go (find (λ r. bytes_eq r.id id) rows) (found (RowFits s.rules) (λ r. bytes_eq r.id id) rows fits.fits)
  where
    at : (r : Row) (o : Option Rule) → IsSomeAnd o (λ a. ValuesFit a r) → option_and_then (λ a. a.parser) o ≡ Some (Signed (pos low) (pos high)) → IfSome (row_text r) P
    at r None fit e = absurd fit
    at r (Some a) fit e = first_text P low high a r such e fit

    go : (o : Option Row) → IfSome o (λ r. RowFits s.rules r × (bytes_eq r.id id ≡ true)) → IfSome (option_and_then row_text o) P
    go None known = tt
    go (Some r) known =
        let own : arg_by_id s.rules r.id ≡ arg_by_id s.rules id = ap (arg_by_id s.rules) (same_bytes r.id id known.1) in
        at r (arg_by_id s.rules id) (subst (λ (o : Option Rule). IsSomeAnd o (λ a. ValuesFit a r)) own known.0) is

-- an option of a number gives the text of one in its range, if any
given_text : (P : Text → Type 0) (app : App) (name id : Text) (rows : List Row) (low high : ℕ) → ((word : Text) → IsSignedIn (pos low) (pos high) word → P (without_minus word))
    → parser_at app name id ≡ Some (Signed (pos low) (pos high)) → Entered app name rows → IfSome (one_of id rows) P
given_text P app name id rows low high such is entered = go (find (λ s. answers_to name (label_of s)) app.subs) entered is
  where
    go : (o : Option Shape) → IsSomeAnd o (λ s. FitsShape s rows) → option_and_then (λ s. parser_in s id) o ≡ Some (Signed (pos low) (pos high)) → IfSome (one_of id rows) P
    go None known e = absurd known
    go (Some s) known e = given_in P s rows id low high such known e

-- the number that such a text is written as is in the range
in_range : (low high : ℕ) → high < 2 ^ 32 → (word : Text) → IsSignedIn (pos low) (pos high) word → (low ≤ number_of (without_minus word)) × (number_of (without_minus word) ≤ high)
in_range low high small word is = go (number_of (without_minus word)) refl
  where
    read : (r : Option ℕ) → ReadsOne {T = ℕ} {E = Unit {0}} (λ (u : Text) (x : Result ℕ (Unit {0})). ParsesUnsigned 32 10 u x) (without_minus word) r → (n : ℕ) × (r ≡ Some n) × (low ≤ n) × (n ≤ high)
    read r reads = signed_reads (Unit {0}) (λ (u : Text) (x : Result ℕ (Unit {0})). ParsesUnsigned 32 10 u x) 32 low high word r reads (λ u x g. g) small is

    not_out : (n : ℕ) → number_of (without_minus word) ≡ n → ¬ ((low ≤ n) × (n ≤ high)) → ⊥
    not_out n e out =
        let none = read None (tt, λ p. out (let got = read (Some n) (p, sym e) in let same : got.0 ≡ n = cc in (omega (arith, same, got.2), omega (arith, same, got.3)))) in
        let wrong : None ≡ Some none.0 = none.1 in
        cc

    go : (n : ℕ) → number_of (without_minus word) ≡ n → (low ≤ n) × (n ≤ high)
    go n e = elim (cases_lt n low) [
      | inl below ↦ absurd (not_out n e (λ range. omega (arith, below, range.0)))
      | inr above ↦ elim (cases_lt high n) [
        | inl beyond ↦ absurd (not_out n e (λ range. omega (arith, beyond, range.1)))
        | inr within ↦ (above, within)
      ]
    ]

-- an option of a number gives one in its range, if any
pub number_in_given : (app : App) (name id : Text) (rows : List Row) (low high : ℕ) → high < 2 ^ 32 → parser_at app name id ≡ Some (Signed (pos low) (pos high)) → Entered app name rows
    → IfSome (one_of id rows) (IsNumberIn low high)
number_in_given app name id rows low high small = given_text (IsNumberIn low high) app name id rows low high
    (λ word is. record {
      number = record { word = word; low = low; high = high; read = refl; small = small; in_range = is };
      above = (in_range low high small word is).0;
      below = (in_range low high small word is).1;
    })

-- ---- what is read of it

-- such a text reads as its number
reads_number : (E : Type 0) (G : List ℕ → Result ℕ E → Type 0) (text : Text) (r : Option ℕ) → IsNumberText text → ((u : List ℕ) (x : Result ℕ E) → G u x → ParsesUnsigned 32 10 u x)
    → ReadsOne G text r → r ≡ Some (number_of text)
reads_number E G text None is only read =
    let reads = signed_reads E G 32 is.low is.high is.word None (subst (λ (t : Text). ReadsOne G t None) is.read read) only is.small is.in_range in
    let none : None ≡ Some reads.0 = reads.1 in
    cc
reads_number E G text (Some n) is only read = ap Some (only text (Ok n) read).1

pub read_number : (E : Type 0) (G : List ℕ → Result ℕ E → Type 0) (o : Option Text) (r : Option ℕ) → IfSome o IsNumberText → ((u : List ℕ) (x : Result ℕ E) → G u x → ParsesUnsigned 32 10 u x)
    → (o ≡ None → r ≡ None) → ((t : Text) → o ≡ Some t → ReadsOne G t r) → r ≡ option_map number_of o
read_number E G None r is only none value = none refl
read_number E G (Some t) r is only none value = reads_number E G t r is only (value t refl)
