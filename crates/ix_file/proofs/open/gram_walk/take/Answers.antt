use Rattle.std.proofs.Common.{◌+◌, ◌-◌, refl, sym, ◌∙◌, arith}
use Rattle.ix_vbyte.proofs.Values.{code_of-apart}
use Rattle.ix_file.proofs.GramWalking.{next_there, read_again, read_next}
use Rattle.ix_file.proofs.open.gram_walk.take.Goals as goal
use Rattle.ix_file.proofs.open.gram_walk.take.Goals.{then-cursor-eq0-via-then-cursor-eq0, then-cursor-eq0-via-else-cursor-eq0+then-cursor-next-2}

pub returns-then-cursor-next : goal.returns-then-cursor-next
returns-then-cursor-next c = λ side terms section seen row has r. read_again side terms section c.args.number seen row c.args.cursor r c.if-cursor-next.true

pub returns-then-cursor-eq0 : goal.returns-then-cursor-eq0
returns-then-cursor-eq0 c = λ side terms section seen row has r w.
    let low = r.low in
    elim c.then-cursor-eq0.branch [
      | then-cursor-eq0-via-then-cursor-eq0 v ↦
          let (behind, some, stands) = next_there side terms section c.args.number seen row c.args.cursor r w has (let other = c.if-cursor-next.false in omega (arith, low, other)) in
          omega (arith, some, v.if-cursor-eq0.true)
      | then-cursor-eq0-via-else-cursor-eq0+then-cursor-next-2 v ↦ let high = v.if-cursor-next-2.true in omega (arith, low, high)
    ]

pub returns-in_default : goal.returns-in_default
returns-in_default c = λ side terms section seen row has r w.
    let (behind, some, stands) = next_there side terms section c.args.number seen row c.args.cursor r w has (let other = c.if-cursor-next.false in let low = r.low in omega (arith, low, other)) in
    c.in_default.ensures.refused (c.args.number + 1 - c.args.cursor.next) behind (omega arith) stands

pub returns-then-gap-next : goal.returns-then-gap-next
returns-then-gap-next c = λ side terms section seen row has r w.
    let (behind, some, stands) = next_there side terms section c.args.number seen row c.args.cursor r w has (let other = c.if-cursor-next.false in let low = r.low in omega (arith, low, other)) in
    let same = (code_of-apart c.in-Ok.gap (c.args.number + 1 - c.args.cursor.next) c.in-Ok.gaps.now behind (sym c.in-Ok.ensures.found.1 ∙ stands)).0 in
    c.if-gap-next.true same

pub returns : goal.returns
returns c = λ side terms section seen row has r.
    read_next side terms section c.args.number seen row c.args.cursor r _ c.in-Ok.gap has (omega arith) (omega arith) c.in-Ok.ensures.found.1 refl refl (omega arith)
