-- What was read is behind what was held.
use Rattle.std.proofs.Common.{◌≡◌, ℕ, ◌+◌, ◌-◌, ◌<◌, ◌++◌, List, [], Option, length, take, drop, sym, ap, subst, ◌∙◌, arith, length-append, length-drop, length-take}
use Rattle.std.proofs.lemmas.List.{with_items_is}
use Rattle.std.proofs.lemmas.Result.{err_from_is_err_and}
use Rattle.std.specs.Io.KnownBytes.{Consumes, IsAtEnd, Keeps, prepend_known}
use Rattle.std.specs.Prelude.{IfSome}
use Rattle.std.specs.Vec.{with_items}
use Rattle.ix_run_text.specs.Inputs.{BeginsWith, bytes_held, known_left}
use Rattle.ix_run_text.proofs.FillLemmas.{ended, held_behind, held_read, input_begins, keeps_read, known_before, known_of}
use Rattle.ix_run_text.proofs.input.Input.read_on.Goals as goal

pub returns-in_err-make_room-clause-came : goal.returns-in_err-make_room-clause-came
returns-in_err-make_room-clause-came g c =
    let old = c.args.self.now in
    subst (λ (held : List ℕ). IfSome (known_left g.R.Read.remaining old) (λ bytes. BeginsWith held bytes)) (sym c.make_room.ensures.held) (input_begins g.R.Read.remaining old)

pub returns-in_err-count-clause-same : goal.returns-in_err-count-clause-same
unfolding bytes_held
returns-in_err-count-clause-same g c =
    let mid = c.make_room.new.self in
    let front : List ℕ = c.deref_mut.result.now in
    let piece : List ℕ = c.read_some.new.buffer in
    let tail : List ℕ = drop (length front - mid.end) (drop mid.end front) in
    let all : List ℕ = take mid.end front ++ (piece ++ tail) in
    let len : length all ≡ mid.buffer.len = omega (arith, mid.buffer.ok.0, mid.within, ap length c.deref_mut.ensures.value, length-append (take mid.end front) (piece ++ tail), length-append piece tail, length-take mid.end front, length-drop mid.end front, length-drop (length front - mid.end) (drop mid.end front)) in
    let p = err_from_is_err_and c.from_residual-in_err-count.result c.from_residual-in_err-count.ensures.1 in
    rw p.1 (held_behind mid.buffer.items front (piece ++ tail) (with_items mid.buffer all).items mid.end mid.start mid.end (with_items_is mid.buffer all len) c.deref_mut.ensures.value (omega arith) (omega (arith, mid.buffer.ok.0, mid.within)) ∙ c.make_room.ensures.held)

pub returns-in_err-count-clause-came : goal.returns-in_err-count-clause-came
unfolding bytes_held
returns-in_err-count-clause-came g c =
    let old = c.args.self.now in
    let mid = c.make_room.new.self in
    let front : List ℕ = c.deref_mut.result.now in
    let piece : List ℕ = c.read_some.new.buffer in
    let tail : List ℕ = drop (length front - mid.end) (drop mid.end front) in
    let all : List ℕ = take mid.end front ++ (piece ++ tail) in
    let len : length all ≡ mid.buffer.len = omega (arith, mid.buffer.ok.0, mid.within, ap length c.deref_mut.ensures.value, length-append (take mid.end front) (piece ++ tail), length-append piece tail, length-take mid.end front, length-drop mid.end front, length-drop (length front - mid.end) (drop mid.end front)) in
    let same = held_behind mid.buffer.items front (piece ++ tail) (with_items mid.buffer all).items mid.end mid.start mid.end (with_items_is mid.buffer all len) c.deref_mut.ensures.value (omega arith) (omega (arith, mid.buffer.ok.0, mid.within)) ∙ c.make_room.ensures.held in
    subst (λ (held : List ℕ). IfSome (known_left g.R.Read.remaining old) (λ bytes. BeginsWith held bytes)) (sym same) (input_begins g.R.Read.remaining old)

pub returns-then-count-eq0-clause-same : goal.returns-then-count-eq0-clause-same
unfolding bytes_held
returns-then-count-eq0-clause-same g c =
    let mid = c.make_room.new.self in
    let front : List ℕ = c.deref_mut.result.now in
    let piece : List ℕ = c.read_some.new.buffer in
    let tail : List ℕ = drop (length front - mid.end) (drop mid.end front) in
    let all : List ℕ = take mid.end front ++ (piece ++ tail) in
    let len : length all ≡ mid.buffer.len = omega (arith, mid.buffer.ok.0, mid.within, ap length c.deref_mut.ensures.value, length-append (take mid.end front) (piece ++ tail), length-append piece tail, length-take mid.end front, length-drop mid.end front, length-drop (length front - mid.end) (drop mid.end front)) in
    held_behind mid.buffer.items front (piece ++ tail) (with_items mid.buffer all).items mid.end mid.start mid.end (with_items_is mid.buffer all len) c.deref_mut.ensures.value (omega arith) (omega (arith, mid.buffer.ok.0, mid.within)) ∙ c.make_room.ensures.held

pub returns-then-count-eq0-clause-came : goal.returns-then-count-eq0-clause-came
returns-then-count-eq0-clause-came g c =
    let old = c.args.self.now in
    subst (λ (held : List ℕ). IfSome (known_left g.R.Read.remaining old) (λ bytes. BeginsWith held bytes)) (sym (returns-then-count-eq0-clause-same g c)) (input_begins g.R.Read.remaining old)

pub returns-then-count-eq0-clause-fault : goal.returns-then-count-eq0-clause-fault
unfolding known_left bytes_held
returns-then-count-eq0-clause-fault g c =
    let old = c.args.self.now in
    let mid = c.make_room.new.self in
    let front : List ℕ = c.deref_mut.result.now in
    let piece : List ℕ = c.read_some.new.buffer in
    let before : Option (List ℕ) = g.R.Read.remaining mid.reader in
    let after : Option (List ℕ) = g.R.Read.remaining c.read_some.new.reader in
    let taken : Consumes before after [] = subst (λ (n : ℕ). Consumes before after (take n piece)) c.if-count-eq0.true c.in_ok-count.ensures.taken in
    let end : IsAtEnd after = c.in_ok-count.ensures.end c.if-count-eq0.true (omega (arith, mid.buffer.ok.0, c.in_ok-make_room.ensures.room, ap length c.deref_mut.ensures.value, length-drop mid.end front, length-take (length front - mid.end) (drop mid.end front))) in
    let is : IfSome (prepend_known (bytes_held mid) before) (λ bytes. length bytes < length (bytes_held mid) + 1) = ended before after (bytes_held mid) taken end in
    subst (λ (held : List ℕ). IfSome (prepend_known held (g.R.Read.remaining old.reader)) (λ bytes. length bytes < length held + 1)) c.make_room.ensures.held
    (subst (λ (known : Option (List ℕ)). IfSome (prepend_known (bytes_held mid) known) (λ bytes. length bytes < length (bytes_held mid) + 1)) (ap g.R.Read.remaining c.make_room.ensures.reader) is)

pub returns-clause-kept : goal.returns-clause-kept
unfolding known_left bytes_held
returns-clause-kept g c =
    let old = c.args.self.now in
    let mid = c.make_room.new.self in
    let front : List ℕ = c.deref_mut.result.now in
    let piece : List ℕ = c.read_some.new.buffer in
    let tail : List ℕ = drop (length front - mid.end) (drop mid.end front) in
    let all : List ℕ = take mid.end front ++ (piece ++ tail) in
    let count = c.in_ok-count.count in
    let len : length all ≡ mid.buffer.len = omega (arith, mid.buffer.ok.0, mid.within, ap length c.deref_mut.ensures.value, length-append (take mid.end front) (piece ++ tail), length-append piece tail, length-take mid.end front, length-drop mid.end front, length-drop (length front - mid.end) (drop mid.end front)) in
    let joined = held_read mid.buffer.items front piece tail (with_items mid.buffer all).items mid.start mid.end count (with_items_is mid.buffer all len) c.deref_mut.ensures.value mid.ordered (omega (arith, mid.buffer.ok.0, mid.within)) c.in_ok-count.ensures.within.0 in
    let before : Option (List ℕ) = g.R.Read.remaining mid.reader in
    let after : Option (List ℕ) = g.R.Read.remaining c.read_some.new.reader in
    subst (λ (known : Option (List ℕ)). Keeps known (prepend_known (drop mid.start (take (mid.end + count) (with_items mid.buffer all).items)) after))
    (known_of (bytes_held old) (bytes_held mid) (g.R.Read.remaining old.reader) before c.make_room.ensures.held (ap g.R.Read.remaining c.make_room.ensures.reader))
    (subst (λ (held : List ℕ). Keeps (prepend_known (bytes_held mid) before) (prepend_known held after)) (sym joined) (keeps_read before after (bytes_held mid) (take count piece) c.in_ok-count.ensures.taken))

pub returns-clause-came : goal.returns-clause-came
returns-clause-came g c = known_before _ _ _ (returns-clause-kept g c) (input_begins g.R.Read.remaining _)

pub returns-clause-more : goal.returns-clause-more
unfolding bytes_held
returns-clause-more g c =
    let mid = c.make_room.new.self in
    let front : List ℕ = c.deref_mut.result.now in
    let piece : List ℕ = c.read_some.new.buffer in
    let tail : List ℕ = drop (length front - mid.end) (drop mid.end front) in
    let all : List ℕ = take mid.end front ++ (piece ++ tail) in
    let count = c.in_ok-count.count in
    let len : length all ≡ mid.buffer.len = omega (arith, mid.buffer.ok.0, mid.within, ap length c.deref_mut.ensures.value, length-append (take mid.end front) (piece ++ tail), length-append piece tail, length-take mid.end front, length-drop mid.end front, length-drop (length front - mid.end) (drop mid.end front)) in
    let joined = held_read mid.buffer.items front piece tail (with_items mid.buffer all).items mid.start mid.end count (with_items_is mid.buffer all len) c.deref_mut.ensures.value mid.ordered (omega (arith, mid.buffer.ok.0, mid.within)) c.in_ok-count.ensures.within.0 in
    omega (arith, ap length joined, length-append (bytes_held mid) (take count piece), length-take count piece, c.in_ok-count.ensures.within.0, ap length c.make_room.ensures.held, c.if-count-eq0.false)
