use Rattle.std.proofs.Common.{◌+◌, ◌++◌, length, inr, sym, ap, arith}
use Rattle.std.proofs.lemmas.List.Elements.{All-append}
use Rattle.std.proofs.lemmas.List.Sums.{sum_by-append}
use Rattle.ix_file.specs.LongLists.{IsLongIn, place_count}
use Rattle.ix_file.specs.declared.open.tables.LongList.{LongList}
use Rattle.ix_file.proofs.AllLists.{AreReadBeside, bytes_all, lists_are_beside, lists_are_not_beside, read_beside}
use Rattle.ix_file.proofs.open.lists.check_lists_beside.Goals as goal

pub returns-in-Some-true-clause-refused : goal.returns-in-Some-true-clause-refused
returns-in-Some-true-clause-refused g c =
    let first = rw c.in_ok-longs.was at c.join-first.ensures.first.0 in
    let second = rw c.in_ok-more.was at c.join-first.ensures.second.0 in
    inr
    (λ rows lists has are.
    lists_are_not_beside rows c.args.section.now c.args.terms.now c.in_ok-longs.claims c.in_ok-more.others c.in-Some-true.field-0 lists
    (read_beside rows c.args.section.now c.args.terms.now c.first_behind-middle.result c.len.result c.in_ok-longs.claims c.in_ok-more.others (sym c.len.ensures.count) (first rows has) (second rows has))
    c.in-Some-true.ensures c.in-Some-true.field-0-test are)

pub returns-in_ok-append-in-Some-false-clause-found : goal.returns-in_ok-append-in-Some-false-clause-found
returns-in_ok-append-in-Some-false-clause-found g c rows has =
    let first = rw c.in_ok-longs.was at c.join-first.ensures.first.0 in
    let second = rw c.in_ok-more.was at c.join-first.ensures.second.0 in
    let read : AreReadBeside rows c.args.section.now c.args.terms.now c.in_ok-longs.claims c.in_ok-more.others =
    read_beside rows c.args.section.now c.args.terms.now c.first_behind-middle.result c.len.result c.in_ok-longs.claims c.in_ok-more.others (sym c.len.ensures.count) (first rows has) (second rows has) in (
      read.front ++ read.back,
      lists_are_beside rows c.args.section.now c.args.terms.now c.in_ok-longs.claims c.in_ok-more.others c.in-Some-false.field-0 read c.in-Some-false.ensures
          (λ twice. absurd (cc (twice, c.in-Some-false.field-0-test))),
    )

pub returns-in_ok-append-in-Some-false-clause-entered : goal.returns-in_ok-append-in-Some-false-clause-entered
returns-in_ok-append-in-Some-false-clause-entered g c =
    let first = rw c.in_ok-longs.was at c.join-first.ensures.first.1.0 in
    let second = rw c.in_ok-more.was at c.join-first.ensures.second.1.0 in
    rw c.in_ok-append-in-Some-false.ensures.items
    (All-append (IsLongIn c.args.section.now c.args.terms.now) c.in_ok-longs.longs.items c.in_ok-more.more.items first second)

pub returns-in_ok-append-in-Some-false-clause-few : goal.returns-in_ok-append-in-Some-false-clause-few
returns-in_ok-append-in-Some-false-clause-few g c =
    let first = rw c.in_ok-longs.was at c.join-first.ensures.first.1.1.0 in
    let second = rw c.in_ok-more.was at c.join-first.ensures.second.1.1.0 in
    let entries = λ (long : LongList). 1 + length long.skips.items in
    omega (
      arith,
      first,
      second,
      ap place_count c.in_ok-append-in-Some-false.ensures.items,
      sum_by-append entries c.in_ok-longs.longs.items c.in_ok-more.more.items,
      bytes_all c.args.terms.now c.len.result (sym c.len.ensures.count),
      c.requires.whole,
    )
