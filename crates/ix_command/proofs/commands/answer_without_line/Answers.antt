-- An error that asks for no help is a mistake.
use Rattle.std.proofs.Common.{rules, inl, inr, ◌≡◌, List, Bool, true, false, sym, subst}
use Rattle.std.specs.Prelude.{◌↔◌}
use Rattle.clap.specs.Walk.{Text}
use Rattle.clap.specs.Words.{kind_of}
use Rattle.clap.specs.declared.error.Error.{Error}
use Rattle.ix_line.specs.LineErrors.{IsHelp}
use Rattle.ix_line.specs.Lines.{Refuses}
use Rattle.ix_command.specs.Statuses.{AreMistaken}
use Rattle.ix_line.specs.declared.error.LineError.{LineError}
use Rattle.ix_line.specs.declared.error.LineError.TheVariants.{Both, Clap, NamesOrList}
use Rattle.ix_command.proofs.commands.answer_without_line.Goals as goal

mistaken : (words : List Text) (error : LineError) (e : Error) (helps : Bool) → error ≡ Clap e → Refuses words error → (helps ≡ true) ↔ IsHelp error → helps ≡ false → AreMistaken words
mistaken words error e helps is refuses asked none =
    let refused : Refuses words (Clap e) = subst (Refuses words) is refuses in
    inl (kind_of e, refused, λ help. let wrong = asked.1 (subst IsHelp (sym is) help) in absurd (cc))

pub returns-in-Clap-clause-refused : goal.returns-in-Clap-clause-refused
returns-in-Clap-clause-refused g c =
    (mistaken _ c.args.error c.in-Clap.field-0 _ c.in-Clap.is c.requires c.help.ensures.asked (rw c.is_some.ensures at c.if-is_some.false), search rules)

cut_twice : (words : List Text) (error : LineError) → error ≡ Both → Refuses words error → AreMistaken words
cut_twice words error is refuses = inr (Both, subst (Refuses words) is refuses)

named_twice : (words : List Text) (error : LineError) → error ≡ NamesOrList → Refuses words error → AreMistaken words
named_twice words error is refuses = inr (NamesOrList, subst (Refuses words) is refuses)

pub returns-in-Both-clause-refused : goal.returns-in-Both-clause-refused
returns-in-Both-clause-refused g c = (cut_twice _ c.args.error c.in-Both.is c.requires, search rules)

pub returns-in-NamesOrList-clause-refused : goal.returns-in-NamesOrList-clause-refused
returns-in-NamesOrList-clause-refused g c = (named_twice _ c.args.error c.in-NamesOrList.is c.requires, search rules)
