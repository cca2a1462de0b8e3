use Rattle.std.proofs.Common.{◌≡◌, ◌≢◌, List, ℕ, Bool, true, false, nat_eq, string_bytes, inr, refl, sym, ap, ◌∙◌, subst}
use Rattle.std.proofs.lemmas.Bool.{false≢true}
use Rattle.std.proofs.lemmas.Cmp.{nat_list_eq_equiv}
use Rattle.std.proofs.lemmas.Result.{err_from_is_err_and}
use Rattle.ix_file.specs.Told.{with_term}
use Rattle.ix_merge.proofs.GatheredLists.{gathered_front, gathered_none}
use Rattle.ix_merge.proofs.pending_entry.PendingEntry.begin.Goals as goal
use lib.Pointwise.{pointwise}

-- two texts that a comparison tells apart differ
apart : (one other : List ℕ) (same : Bool) → same ≡ pointwise nat_eq one other → same ≡ false → one ≢ other
apart one other same is differs equal =
    let alike : pointwise nat_eq one other ≡ true = subst (λ (t : List ℕ). pointwise nat_eq one t ≡ true) equal (nat_list_eq_equiv.refl one) in
    false≢true (sym differs ∙ is ∙ alike)

pub term-requires-clause-may : goal.term-requires-clause-may
term-requires-clause-may g c ready =
    let m = c.requires.may in
    record { told = m.told; kept = (c.in_ok-send.ensures.told m.before m.told m.has).kept; may = m.closable }

pub returns-in_err-term-clause-error : goal.returns-in_err-term-clause-error
returns-in_err-term-clause-error g c =
    let m = c.requires.may in
    let p = err_from_is_err_and c.from_residual-in_err-term.result c.from_residual-in_err-term.ensures.1 in
    rw (p.1, p.2) (inr (c.in_err-term.ensures.error (c.in_ok-send.ensures.told m.before m.told m.has).ready))

pub returns-clause-told : goal.returns-clause-told
returns-clause-told g c before told has closable = record {
  begun = with_term told c.args.term.now;
  begins = record { is = inr (apart (string_bytes c.args.self.now.term) c.args.term.now c.eq.result (c.eq.ensures ∙ ap (λ (t : List ℕ). pointwise nat_eq t c.args.term.now) c.as_str.ensures.value) c.if-eq.false, refl, refl) };
  was =
      gathered_none g.W.Write.contents before c.term.new.self _ (with_term told c.args.term.now)
      (record { documents = c.in_ok-send.ensures.nothing.documents; list = c.in_ok-send.ensures.nothing.list })
      (c.in_ok-term.ensures.told before told (c.in_ok-send.ensures.told before told has) closable);
}

pub returns-then-eq-clause-front : goal.returns-then-eq-clause-front
returns-then-eq-clause-front g c before told has = gathered_front g.W.Write.contents before c.args.writer.now c.args.self.now told has
