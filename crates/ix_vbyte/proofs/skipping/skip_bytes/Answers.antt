use Rattle.std.proofs.Common.{◌≡◌, ◌+◌, ◌∙◌, drop, ap, arith}
use Rattle.ix_vbyte.specs.Ends.{end_of}
use Rattle.ix_vbyte.proofs.Ends.{end_of-none, unmarked_more, marked_more, passed_all}
use Rattle.ix_vbyte.proofs.skipping.skip_bytes.Goals as goal
use Rattle.ix_vbyte.proofs.skipping.skip_bytes.Goals.{then-byte-ge128, else-byte-ge128}

pub returns-then-left-eq0 : goal.returns-then-left-eq0
returns-then-left-eq0 c =
    let all : end_of c.loop-place.left (drop c.loop-place.place c.args.bytes.now) ≡ 0 =
    ap (λ n. end_of n (drop c.loop-place.place c.args.bytes.now)) c.if-left-eq0.true ∙ end_of-none (drop c.loop-place.place c.args.bytes.now) in
    omega arith

pub loop-place-preserved : goal.loop-place-preserved
loop-place-preserved c =
    elim c.if-byte-ge128.branch [
      | then-byte-ge128 w ↦ omega (arith, marked_more c.args.bytes.now c.loop-place.place c.loop-place.left (omega arith) (omega arith) (omega arith), ap (λ n. end_of n (drop (c.loop-place.place + 1) c.args.bytes.now)) w.left-is)
      | else-byte-ge128 w ↦ omega (arith, unmarked_more c.args.bytes.now c.loop-place.place c.loop-place.left (omega arith) (omega arith) (omega arith), ap (λ n. end_of n (drop (c.loop-place.place + 1) c.args.bytes.now)) w.left-is)
    ]

pub returns : goal.returns
returns c = omega (arith, passed_all c.args.bytes.now c.loop-place.place c.loop-place.left (omega arith))
