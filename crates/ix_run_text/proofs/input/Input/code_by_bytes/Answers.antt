-- The bytes seen come first of what was left, and show a code or a fault.
use Rattle.std.proofs.Common.{Option, ◌≡◌, ◌+◌, ◌<◌, ℕ, List, [], ◌∷◌, take, length, set, refl, sym, subst, ap, ◌∙◌, arith}
use Rattle.std.proofs.KnownBytes.{Consumes-nil, Consumes-trans}
use Rattle.std.proofs.lemmas.List.{take_more_set, length-take, length-set}
use Rattle.std.specs.Io.KnownBytes.{Consumes}
use Rattle.ix_vbyte.specs.Reading.{IsCut, IsTooBig, StartsWithCode, StartsWithZero}
use Rattle.ix_vbyte.specs.Code.{code_of}
use Rattle.ix_run_text.specs.Inputs.{known_left}
use Rattle.ix_postings.proofs.CodeFaults.{big_stays, zero_stays}
use Rattle.ix_run_text.proofs.CodeLemmas.{ends_here, fault_of_front, six_too_many}
use Rattle.ix_vbyte.proofs.Fronts.{cut_at_once}
use Rattle.ix_run_text.proofs.input.Input.code_by_bytes.Goals as goal

pub loop-place-init : goal.loop-place-init
loop-place-init g c = record {
  taken = Consumes-nil (known_left g.R.Read.remaining c.args.self.now);
  cut = cut_at_once [] refl;
  within = omega arith;
  size = refl;
}

-- the bytes with the one at hand
taken_more : (a b c : Option (List ℕ)) (seen : List ℕ) (place byte : ℕ) → place < length seen → Consumes a b (take place seen) → Consumes b c (byte ∷ [])
    → Consumes a c (take (place + 1) (set seen place byte))
taken_more a b c seen place byte lt before now =
    subst (Consumes a c) (sym (take_more_set seen place byte lt)) (Consumes-trans a b c (take place seen) (byte ∷ []) before now)

code_is : (seen : List ℕ) (place byte number count : ℕ) → place < length seen → IsCut (take place seen) → StartsWithCode (take (place + 1) (set seen place byte)) number count
    → take (place + 1) (set seen place byte) ≡ code_of number
code_is seen place byte number count lt cut s =
    take_more_set seen place byte lt ∙ ends_here (take place seen) byte number count cut (subst (λ (bytes : List ℕ). StartsWithCode bytes number count) (take_more_set seen place byte lt) s)

pub returns-in-Ok-clause-taken : goal.returns-in-Ok-clause-taken
returns-in-Ok-clause-taken g c =
    let loop = c.loop-place in
    let s = (c.in-Ok.ensures.found c.in-Ok.number c.in-Ok.field-0-1).0 refl in
    let lt : loop.place < length loop.seen = omega arith in
    let old = known_left g.R.Read.remaining c.args.self.now in
    let new = known_left g.R.Read.remaining c.byte.new.self in
    subst (Consumes old new) (code_is loop.seen loop.place c.in-Some.byte c.in-Ok.number c.in-Ok.field-0-1 lt loop.invariant.cut s)
    (taken_more old (known_left g.R.Read.remaining loop.self) new loop.seen loop.place c.in-Some.byte lt loop.invariant.taken (rw c.in-Some.is at c.in_ok-byte.ensures.taken))

pub returns-in-Ok-clause-size : goal.returns-in-Ok-clause-size
returns-in-Ok-clause-size g c =
    let loop = c.loop-place in
    let s = (c.in-Ok.ensures.found c.in-Ok.number c.in-Ok.field-0-1).0 refl in
    let lt : loop.place < length loop.seen = omega arith in
    let is = code_is loop.seen loop.place c.in-Some.byte c.in-Ok.number c.in-Ok.field-0-1 lt loop.invariant.cut s in
    (omega (arith, ap length is, length-take (loop.place + 1) (set loop.seen loop.place c.in-Some.byte), length-set loop.seen loop.place c.in-Some.byte), omega arith)

pub returns-in-Err-TooBig-clause-fault : goal.returns-in-Err-TooBig-clause-fault
returns-in-Err-TooBig-clause-fault g c =
    let loop = c.loop-place in
    let lt : loop.place < length loop.seen = omega arith in
    let old = known_left g.R.Read.remaining c.args.self.now in
    let new = known_left g.R.Read.remaining c.byte.new.self in
    let seen = take (loop.place + 1) (set loop.seen loop.place c.in-Some.byte) in
    fault_of_front old new seen IsTooBig
    (taken_more old (known_left g.R.Read.remaining loop.self) new loop.seen loop.place c.in-Some.byte lt loop.invariant.taken (rw c.in-Some.is at c.in_ok-byte.ensures.taken))
    (λ rest. big_stays seen rest (c.in-Err-TooBig.ensures.too_big.0 (cc)))

pub returns-clause-fault : goal.returns-clause-fault
returns-clause-fault g c =
    let loop = c.loop-place in
    absurd (six_too_many (take loop.place loop.seen) (omega (arith, length-take loop.place loop.seen)) loop.invariant.cut)

pub returns-in-Err-LeadingZero-clause-fault : goal.returns-in-Err-LeadingZero-clause-fault
returns-in-Err-LeadingZero-clause-fault g c =
    let loop = c.loop-place in
    let lt : loop.place < length loop.seen = omega arith in
    let old = known_left g.R.Read.remaining c.args.self.now in
    let new = known_left g.R.Read.remaining c.byte.new.self in
    let seen = take (loop.place + 1) (set loop.seen loop.place c.in-Some.byte) in
    fault_of_front old new seen StartsWithZero
    (taken_more old (known_left g.R.Read.remaining loop.self) new loop.seen loop.place c.in-Some.byte lt loop.invariant.taken (rw c.in-Some.is at c.in_ok-byte.ensures.taken))
    (λ rest. zero_stays seen rest (c.in-Err-LeadingZero.ensures.leading_zero.0 (cc)))

pub loop-place-preserved : goal.loop-place-preserved
loop-place-preserved g c =
    let loop = c.loop-place in
    let lt : loop.place < length loop.seen = omega arith in
    record {
      taken = taken_more (known_left g.R.Read.remaining c.args.self.now) (known_left g.R.Read.remaining loop.self) (known_left g.R.Read.remaining c.byte.new.self) loop.seen loop.place c.in-Some.byte lt loop.invariant.taken
          (rw c.in-Some.is at c.in_ok-byte.ensures.taken);
      cut = c.in-Err-Cut.ensures.cut.0 (cc);
      within = omega arith;
      size = length-set loop.seen loop.place c.in-Some.byte ∙ loop.invariant.size;
    }
