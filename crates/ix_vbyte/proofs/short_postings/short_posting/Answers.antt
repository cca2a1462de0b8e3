-- The shape of the bytes tells whether such a posting stands first.
use Rattle.std.proofs.Common.{arith, inl, inr}
use Rattle.ix_vbyte.proofs.ShortPostings.{found_behind_one, found_behind_two, shape_of}
use Rattle.ix_vbyte.proofs.short_postings.short_posting.Goals as goal
use Rattle.ix_vbyte.proofs.short_postings.short_posting.Goals.{then-first-eq0-via-then-first-eq0, then-first-eq0-via-else-first-eq0+then-first, then-first-eq0-via-else-first-eq0+else-first+then-second-lt128, then-first-eq0-via-else-first-eq0+else-first+else-second-lt128+then-bytes}

pub returns-then-second-clause-none : goal.returns-then-second-clause-none
returns-then-second-clause-none c gap position rest long gap_some gap_fits position_some position_fits e = elim (shape_of gap position rest gap_some gap_fits position_some position_fits c.args.bytes.now long e) [
  | inl one ↦ c.if-second.true one.second
  | inr two ↦ absurd (omega (arith, two.first, c.if-first-gt128.true))
]

pub returns-in_default-clause-none : goal.returns-in_default-clause-none
returns-in_default-clause-none c gap position rest long gap_some gap_fits position_some position_fits e = elim (shape_of gap position rest gap_some gap_fits position_some position_fits c.args.bytes.now long e) [
  | inl one ↦ one.position c.in_default.ensures.none
  | inr two ↦ absurd (omega (arith, two.first, c.if-first-gt128.true))
]

pub returns-then-first-gt128-clause-found : goal.returns-then-first-gt128-clause-found
returns-then-first-gt128-clause-found c =
    let bytes = c.args.bytes.now in
    found_behind_one c.from.result c.in-Some.position_gap c.in-Some.size bytes (omega (arith, c.if-bytes-lt-SHORT.false)) c.if-first-gt128.true (c.type_inv.bytes 0).fits (omega (arith, c.if-second.false)) (c.type_inv.bytes 2).fits (c.type_inv.bytes 3).fits
    (omega (arith, c.from.ensures)) c.in-Some.ensures.found

pub returns-then-first-eq0-clause-none : goal.returns-then-first-eq0-clause-none
returns-then-first-eq0-clause-none c gap position rest long gap_some gap_fits position_some position_fits e = elim (shape_of gap position rest gap_some gap_fits position_some position_fits c.args.bytes.now long e) [
  | inl one ↦ absurd (omega (arith, one.first, c.if-first-gt128.false))
  | inr two ↦ elim c.then-first-eq0.branch [
    | then-first-eq0-via-then-first-eq0 w ↦ absurd (omega (arith, two.some, w.if-first-eq0.true))
    | then-first-eq0-via-else-first-eq0+then-first w ↦ absurd (omega (arith, two.first, w.if-first.true))
    | then-first-eq0-via-else-first-eq0+else-first+then-second-lt128 w ↦ absurd (omega (arith, two.second, w.if-second-lt128.true))
    | then-first-eq0-via-else-first-eq0+else-first+else-second-lt128+then-bytes w ↦ absurd (omega (arith, two.third, w.if-bytes.true))
  ]
]

pub returns-in_default-short_code-clause-none : goal.returns-in_default-short_code-clause-none
returns-in_default-short_code-clause-none c gap position rest long gap_some gap_fits position_some position_fits e = elim (shape_of gap position rest gap_some gap_fits position_some position_fits c.args.bytes.now long e) [
  | inl one ↦ absurd (omega (arith, one.first, c.if-first-gt128.false))
  | inr two ↦ two.position c.in_default-short_code.ensures.none
]

pub returns-clause-found : goal.returns-clause-found
returns-clause-found c =
    let bytes = c.args.bytes.now in
    found_behind_two _ c.in-Some-short_code.position_gap c.in-Some-short_code.size bytes (omega (arith, c.if-bytes-lt-SHORT.false)) (omega (arith, c.if-first-eq0.false)) (omega (arith, c.if-first.false, c.if-first-gt128.false))
    (omega (arith, c.if-second-lt128.false)) (c.type_inv.bytes 1).fits (omega (arith, c.if-bytes.false)) (c.type_inv.bytes 3).fits (c.type_inv.bytes 4).fits (omega (arith, c.from-2.ensures, c.from-3.ensures)) c.in-Some-short_code.ensures.found
