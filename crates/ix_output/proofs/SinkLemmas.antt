-- Known bytes that grow in steps.
use Rattle.std.proofs.Common.{◌≡◌, ℕ, ◌+◌, List, [], ◌++◌, Option, Some, None, take, drop, length, sym, ap, ◌∙◌, append_assoc, append-nil, take-append-drop, ◌-◌, Result, Ok, Err, OnErr, length-drop, subst}
use Rattle.std.proofs.Math.Seq.{take-add, take-length}
use Rattle.std.specs.Io.KnownBytes.{Appends, Keeps}
use Rattle.ix_output.specs.Sinks.{AppendsFront}

-- nothing was gained
pub appends_nothing : (known : Option (List ℕ)) → Appends known known []
appends_nothing None = tt
appends_nothing (Some bytes) = sym (append-nil bytes)

-- one gain after another
pub appends_then : (old middle new : Option (List ℕ)) (first second : List ℕ) → Appends old middle first → Appends middle new second → Appends old new (first ++ second)
appends_then None middle new first second a b = tt
appends_then (Some old) None new first second a b = absurd a
appends_then (Some old) (Some middle) None first second a b = absurd b
appends_then (Some old) (Some middle) (Some new) first second a b =
    b ∙ ap (λ xs. xs ++ second) a ∙ append_assoc old first second

-- a gain, and then a call that keeps what is known
pub appends_keeps : (old middle new : Option (List ℕ)) (first : List ℕ) → Appends old middle first → Keeps middle new → Appends old new first
appends_keeps None middle new first a b = tt
appends_keeps (Some old) None new first a b = absurd a
appends_keeps (Some old) (Some middle) None first a b = absurd b
appends_keeps (Some old) (Some middle) (Some new) first a b = b ∙ a

-- a call that keeps what is known gains nothing
pub nothing_from_keeps : (old new : Option (List ℕ)) → Keeps old new → Appends old new []
nothing_from_keeps None new a = tt
nothing_from_keeps (Some old) None a = absurd a
nothing_from_keeps (Some old) (Some new) a = a ∙ sym (append-nil old)

-- the first bytes of a text are a front of it
pub front_from_taken : (old new : Option (List ℕ)) (bytes : List ℕ) (written : ℕ) → Appends old new (take written bytes) → AppendsFront old new bytes
front_from_taken old new bytes written gained = record {
  front = take written bytes;
  rest = drop written bytes;
  parts = sym (take-append-drop written bytes);
  gained = gained;
}

-- what is so in any case is so at an error
pub on_err_always : {T E P : Type 0} (result : Result T E) → P → OnErr result P
on_err_always (Ok value) p = tt
on_err_always (Err error) p = p

-- the rest of a text after its first bytes, as the code takes it
pub rest_whole : (bytes : List ℕ) (written : ℕ) → take (length bytes - written) (drop written bytes) ≡ drop written bytes
rest_whole bytes written = rw (← length-drop written bytes) (take-length (drop written bytes))

-- some bytes more
pub appends_more : (old middle new : Option (List ℕ)) (bytes : List ℕ) (written count : ℕ) → Appends old middle (take written bytes) → Appends middle new (take count (take (length bytes - written) (drop written bytes))) → Appends old new (take (written + count) bytes)
appends_more old middle new bytes written count first second =
    let P : List ℕ → Type 0 = λ part. Appends middle new (take count part) in
    let Q : List ℕ → Type 0 = λ whole. Appends old new whole in
    subst Q (sym (take-add written count bytes)) (appends_then old middle new _ _ first (subst P (rest_whole bytes written) second))
