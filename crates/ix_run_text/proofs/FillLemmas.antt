-- A buffer that is read on into: its bytes move to the front, it grows, and bytes that come are behind them.
use Rattle.std.proofs.Common.{◌≡◌, ℕ, ◌+◌, ◌-◌, ◌<◌, ◌≤◌, List, [], ◌++◌, Option, Some, None, IfSome, length, take, drop, refl, sym, ap, ap₂, ◌∙◌, subst, arith, append_assoc, length-append, zero-add}
use Rattle.std.proofs.Math.Seq.{take-append-add}
use Rattle.std.proofs.lemmas.List.{drop-append-le, length-drop, length-take, length-take-le, take-append-le, take-take}
use Rattle.std.proofs.lemmas.List.Edits.{take-paste}
use Rattle.std.specs.Io.KnownBytes.{Consumes, IsAtEnd, Keeps, prepend_known}
use Rattle.std.specs.List.{copy_within}
use Rattle.ix_vbyte.specs.declared.errors.VbError.TheVariants.{Cut}
use Rattle.ix_run_text.specs.CodeFaults.{IsTextFault}
use Rattle.ix_run_text.specs.Inputs.{BeginsWith, bytes_held, known_left}
use Rattle.ix_run_text.specs.declared.input.Input.{Input}
use Rattle.ix_run_text.specs.declared.run_text_error.RunTextError.{RunTextError}
use Rattle.ix_run_text.specs.declared.run_text_error.RunTextError.TheVariants.{Number, Memory, Read}
use Rattle.ix_run_text.proofs.InputLemmas.{drop-nothing, held, held-slice}

-- the bytes moved to the front
pub held_moved_down : (buffer : List ℕ) (start end : ℕ) → start ≤ end → end ≤ length buffer → held (copy_within buffer start end 0) 0 (end - start) ≡ held buffer start end
held_moved_down buffer start end le within =
    let moved : List ℕ = copy_within buffer start end 0 in
    drop-nothing (take (end - start) moved)
    ∙ ap (λ (n : ℕ). take n moved) (sym (zero-add (end - start)))
    ∙ take-paste buffer 0 (drop start buffer) (end - start) (omega arith) (omega (arith, length-drop start buffer, le, within))
    ∙ held-slice buffer start end le

-- what is behind the bytes held says nothing of them
pub held_behind : (buffer front more new : List ℕ) (size start end : ℕ) → new ≡ take size front ++ more → front ≡ buffer → end ≤ size → end ≤ length buffer → held new start end ≡ held buffer start end
held_behind buffer front more new size start end is same le within =
    let long : end ≤ length (take size buffer) = omega (arith, length-take size buffer, le, within) in
    ap (λ (xs : List ℕ). held xs start end) (is ∙ ap (λ (xs : List ℕ). take size xs ++ more) same)
    ∙ ap (drop start) (take-append-le end (take size buffer) more long ∙ take-take end size buffer le)

-- what was read is held behind what was
pub held_read : (buffer front piece tail new : List ℕ) (start end count : ℕ) → new ≡ take end front ++ (piece ++ tail) → front ≡ buffer → start ≤ end → end ≤ length buffer → count ≤ length piece
    → held new start (end + count) ≡ held buffer start end ++ take count piece
held_read buffer front piece tail new start end count is same le within few =
    let size : length (take end buffer) ≡ end = length-take-le end buffer within in
    ap (λ (xs : List ℕ). held xs start (end + count)) (is ∙ ap (λ (xs : List ℕ). take end xs ++ (piece ++ tail)) same)
    ∙ ap (λ (n : ℕ). drop start (take (n + count) (take end buffer ++ (piece ++ tail)))) (sym size)
    ∙ ap (drop start) (take-append-add (take end buffer) (piece ++ tail) count ∙ ap (λ (xs : List ℕ). take end buffer ++ xs) (take-append-le count piece tail few))
    ∙ drop-append-le start (take end buffer) (take count piece) (omega (arith, size, le))

-- so nothing is lost
pub keeps_read : (known after : Option (List ℕ)) (before piece : List ℕ) → Consumes known after piece → Keeps (prepend_known before known) (prepend_known (before ++ piece) after)
keeps_read None after before piece taken = tt
keeps_read (Some x) None before piece taken = absurd taken
keeps_read (Some x) (Some y) before piece taken = append_assoc before piece y ∙ ap (λ (bytes : List ℕ). before ++ bytes) (sym taken)

-- what is held comes first
pub begins_held : (held : List ℕ) (known : Option (List ℕ)) → IfSome (prepend_known held known) (λ bytes. BeginsWith held bytes)
begins_held held None = tt
begins_held held (Some x) = record { rest = x; is = refl }

-- what is known of what is kept is known of what was
pub known_before : (a b : Option (List ℕ)) (P : List ℕ → Type 0) → Keeps a b → IfSome b P → IfSome a P
known_before None b P kept known = tt
known_before (Some x) None P kept known = absurd kept
known_before (Some x) (Some y) P kept known = subst P kept known

-- no byte is left
pub ended : (known after : Option (List ℕ)) (held : List ℕ) → Consumes known after [] → IsAtEnd after → IfSome (prepend_known held known) (λ bytes. length bytes < length held + 1)
ended None after held taken end = tt
ended (Some x) None held taken end = absurd taken
ended (Some x) (Some y) held taken end = omega (arith, length-append held x, ap length taken, ap length end)

text_fault_of : (few many : ℕ) (bytes : List ℕ) (error : RunTextError) → few ≤ many → IsTextFault few bytes error → IsTextFault many bytes error
text_fault_of few many bytes (Number Cut) le fault = omega (arith, fault, le)
text_fault_of few many bytes Read le fault = tt
text_fault_of few many bytes Memory le fault = tt
text_fault_of few many bytes _ le fault = absurd fault

-- bytes too few for some are too few for more
pub text_fault_more : (few many : ℕ) (known : Option (List ℕ)) (error : RunTextError) → few ≤ many → IfSome known (λ bytes. IsTextFault few bytes error) → IfSome known (λ bytes. IsTextFault many bytes error)
text_fault_more few many None error le fault = tt
text_fault_more few many (Some bytes) error le fault = text_fault_of few many bytes error le fault

-- the same of an input and one after it
pub known_of : (old mid : List ℕ) (known other : Option (List ℕ)) → mid ≡ old → other ≡ known → prepend_known mid other ≡ prepend_known old known
known_of old mid known other held same = ap₂ (λ (xs : List ℕ) (k : Option (List ℕ)). prepend_known xs k) held same

pub input_begins : {R : Type 0} (remaining : R → Option (List ℕ)) (input : Input R) → IfSome (known_left remaining input) (λ bytes. BeginsWith (bytes_held input) bytes)
unfolding known_left bytes_held
input_begins remaining input = begins_held (held input.buffer.items input.start input.end) (remaining input.reader)
