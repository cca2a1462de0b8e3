use Rattle.std.proofs.Common.{◌≡◌, ℕ, ◌+◌, ◌<◌, ◌≤◌, [], length, inl, inr, refl, ap, subst, ⊎_elim, arith}
use Rattle.std.proofs.lemmas.Result.{err_from_is_err_and}
use Rattle.std.proofs.lemmas.List.Elements.{All-nil}
use Rattle.ix_vbyte.specs.Skips.{AreSkipsIn}
use Rattle.ix_file.specs.LongLists.{IsLongIn, bytes_before, place_count}
use Rattle.ix_file.specs.ReadLists.{AreListedIn}
use Rattle.ix_file.specs.declared.open.tables.LongList.{LongList}
use Rattle.ix_file.proofs.AllLists.{bytes_more, counts_at, list_within, claimed_lists, no_list, range_size, read_none_from, read_one_list}
use Rattle.ix_file.proofs.ListEntering.{long_in, long_kept}
use Rattle.ix_file.proofs.PlacedLemmas.{from_term, term_at, to_term}
use Rattle.ix_file.specs.declared.open.terms.ListPlace.{ListPlace}
use Rattle.ix_file.proofs.open.lists.check_range.Goals as goal

pub loop-number-init : goal.loop-number-init
loop-number-init c = record {
  read = λ rows has. read_none_from rows c.args.section.now c.args.terms.now c.args.range.0 c.args.claims;
  entered = rw c.new-longs.ensures.items (All-nil (IsLongIn c.args.section.now c.args.terms.now));
  few = rw c.new-longs.ensures.items (omega arith);
  room = λ top has. has;
}

pub list_of-list-requires : goal.list_of-list-requires
list_of-list-requires c =
    let low : c.loop-number.number < length c.args.terms.now = omega (arith, c.loop-number-test.true, c.requires.within) in
    let at = term_at c.args.terms.now c.loop-number.number c.list-place.result c.list-place.ensures in
    let within = list_within c.args.terms.now c.loop-number.number at.term c.requires.laid_out low at.read in
    omega (arith, within, c.requires.whole, ap (λ (p : ListPlace). p.start) at.is, ap (λ (p : ListPlace). p.size) at.is)

pub check_list-requires-clause-some : goal.check_list-requires-clause-some
check_list-requires-clause-some c =
    let low : c.loop-number.number < length c.args.terms.now = omega (arith, c.loop-number-test.true, c.requires.within) in
    let at = term_at c.args.terms.now c.loop-number.number c.list-place.result c.list-place.ensures in
    let some : 0 < at.term.documents = (counts_at c.args.terms.now c.loop-number.number at.term c.requires.counts low at.read).some in
    omega (arith, some, ap (λ (p : ListPlace). p.documents) at.is)

pub check_list-requires-clause-ready : goal.check_list-requires-clause-ready
check_list-requires-clause-ready c =
    let ready = c.requires.ready in
    record { rows = ready.rows; has = ready.has; few_documents = ready.few_documents; few_tokens = ready.few_tokens; room = c.loop-number.invariant.room _ ready.room }

pub check_list-requires-clause-claimed : goal.check_list-requires-clause-claimed
check_list-requires-clause-claimed c =
    let read = c.loop-number.invariant.read c.requires.ready.rows c.requires.ready.has in
    (_, read.claimed [] c.requires.none)

pub returns-in_err-skips-clause-refused : goal.returns-in_err-skips-clause-refused
returns-in_err-skips-clause-refused c =
    let section = c.args.section.now in
    let low : c.loop-number.number < length c.args.terms.now = omega (arith, c.loop-number-test.true, c.requires.within) in
    let at = term_at c.args.terms.now c.loop-number.number c.list-place.result c.list-place.ensures in
    let p = err_from_is_err_and c.from_residual.result c.from_residual.ensures.1 in
    rw (p.1, p.2)
    (⊎_elim inl
    (λ refused.
    inr
    (λ rows lists has are.
    no_list rows section c.args.terms.now lists c.loop-number.number at.term low at.read
    (λ postings listed. refused rows postings has (from_term (λ documents bytes. AreListedIn rows documents bytes postings) section at.term c.list-place.result c.list_of-list.result.now at.is c.list_of-list.ensures listed))
    are))
    c.in_err-skips.ensures.refused)

pub loop-number-preserved : goal.loop-number-preserved
loop-number-preserved c =
    let section = c.args.section.now in
    let low : c.loop-number.number < length c.args.terms.now = omega (arith, c.loop-number-test.true, c.requires.within) in
    let at = term_at c.args.terms.now c.loop-number.number c.list-place.result c.list-place.ensures in
    record {
      read = λ rows has.
          let found = c.in_ok-skips.ensures.found rows has in
          read_one_list rows section c.args.terms.now c.args.range.0 c.loop-number.number at.term found.0 c.args.claims c.loop-number.claims c.check_list.new.claims
          (c.loop-number.invariant.read rows has) (omega arith) low at.read
          (to_term (λ documents bytes. AreListedIn rows documents bytes found.0) section at.term c.list-place.result c.list_of-list.result.now at.is c.list_of-list.ensures found.1) found.2;
      entered =
          let long : LongList = record { number = c.loop-number.number; skips = c.in_ok-skips.skips } in
          let skips = to_term (λ documents bytes. AreSkipsIn documents bytes c.in_ok-skips.skips.items) section at.term c.list-place.result c.list_of-list.result.now at.is c.list_of-list.ensures c.in_ok-skips.ensures.entered in
          long_kept section c.args.terms.now c.loop-number.longs.items c.keep_long.new.longs.items long c.loop-number.invariant.entered c.in_ok-keep_long.ensures.kept
          (λ some. long_in section c.args.terms.now c.loop-number.number at.term long refl at.read skips some);
      few =
          let place = c.list-place.result in
          omega (
            arith,
            c.loop-number.invariant.few,
            c.in_ok-keep_long.ensures.few,
            c.in_ok-skips.ensures.few,
            range_size section place.start place.size,
            ap length c.list_of-list.ensures,
            bytes_more c.args.terms.now c.loop-number.number at.term low at.read,
            ap (λ (p : ListPlace). p.size) at.is,
          );
      room = λ top has. c.check_list.ensures.room top (c.loop-number.invariant.room top has);
    }

pub returns-clause-found : goal.returns-clause-found
returns-clause-found c rows has =
    claimed_lists rows c.args.section.now c.args.terms.now c.args.range.0 c.loop-number.number c.args.range.1 c.args.claims c.loop-number.claims (omega arith) (c.loop-number.invariant.read rows has) c.requires.none

pub returns-clause-entered : goal.returns-clause-entered
returns-clause-entered c = c.loop-number.invariant.entered

pub returns-clause-few : goal.returns-clause-few
returns-clause-few c =
    let last : c.loop-number.number ≡ c.args.range.1 = omega arith in
    subst (λ (n : ℕ). bytes_before c.args.terms.now c.args.range.0 + place_count c.loop-number.longs.items ≤ bytes_before c.args.terms.now n) last c.loop-number.invariant.few
