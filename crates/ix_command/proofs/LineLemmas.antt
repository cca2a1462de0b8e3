-- The line of an error, written in pieces.
use Rattle.std.proofs.Common.{◌≡◌, ◌∙◌, ◌+◌, ◌<◌, ◌/◌, ◌%◌, ℕ, true, List, [], ◌∷◌, ◌++◌, Option, Result, Ok, Err, refl, sym, ap, ap₂, length, map, take, drop, get_or, append_assoc, take-append-drop}
use Rattle.std.specs.Prelude.{OnErr, OnOk, codes, encode_utf8, flat_map, if◌then◌else◌}
use Rattle.std.specs.Char.{digit_char, is_control}
use Rattle.std.specs.Io.KnownBytes.{Appends}
use Rattle.std.specs.Str.{IsUtf8, chars}
use Rattle.std.proofs.Math.Utf8.{encodes}
use Rattle.std.proofs.lemmas.Grind.{flat_map-append}
use Rattle.std.proofs.lemmas.List.{map-id, take_more}
use Rattle.std.proofs.lemmas.Str.{chars-append}
use Rattle.ix_output.specs.Sinks.{AppendsFront}
use Rattle.ix_output.proofs.SinkLemmas.{appends_then}
use Rattle.ix_command.specs.Refusals.{line_with, shown, shown_char}

-- ---- what is out

-- a beginning of a text is one of a longer text
pub front_more : (old new : Option (List ℕ)) (text more : List ℕ) → AppendsFront old new text → AppendsFront old new (text ++ more)
front_more old new text more part = record {
  front = part.front;
  rest = part.rest ++ more;
  parts = ap (λ l. l ++ more) part.parts ∙ append_assoc part.front part.rest more;
  gained = part.gained;
}

-- a text, and then a beginning of what is behind it
pub front_then : (old middle new : Option (List ℕ)) (first second : List ℕ) → Appends old middle first → AppendsFront middle new second → AppendsFront old new (first ++ second)
front_then old middle new first second gained part = record {
  front = first ++ part.front;
  rest = part.rest;
  parts = ap (λ l. first ++ l) part.parts ∙ sym (append_assoc first part.front part.rest);
  gained = appends_then old middle new first part.front gained part.gained;
}

-- what follows of an error
pub err_map : {T E P Q : Type 0} (result : Result T E) → (P → Q) → OnErr result P → OnErr result Q
err_map (Ok value) make p = p
err_map (Err error) make p = make p

-- and of what went well
pub ok_map : {T E P Q : Type 0} (result : Result T E) → (P → Q) → OnOk result P → OnOk result Q
ok_map (Ok value) make p = make p
ok_map (Err error) make p = p

-- ---- control characters shown

-- texts one after another, and what is shown of them
pub shown_then : (first second : List ℕ) → IsUtf8 first → shown (first ++ second) ≡ shown first ++ shown second
unfolding shown
shown_then first second is = ap (flat_map shown_char) (chars-append first second is) ∙ flat_map-append shown_char (chars first) (chars second)

-- the line of three texts in its pieces
pub line_cut : (head path tail : List ℕ) → IsUtf8 head → IsUtf8 path
    → line_with (head ++ path ++ tail) ≡ codes "ix: " ++ (shown head ++ (shown path ++ (shown tail ++ 10 ∷ [])))
line_cut head path tail one two =
    let three = ap shown (append_assoc head path tail) ∙ shown_then head (path ++ tail) one ∙ ap (λ l. shown head ++ l) (shown_then path tail two) in
    ap (λ l. codes "ix: " ++ (l ++ 10 ∷ [])) three
    ∙ ap (λ l. codes "ix: " ++ l) (append_assoc (shown head) (shown path ++ shown tail) (10 ∷ []) ∙ ap (λ l. shown head ++ l) (append_assoc (shown path) (shown tail) (10 ∷ [])))

-- the pieces of a control character
pub control_cut : (c : ℕ) → is_control c ≡ true → shown_char c ≡ codes "\\x" ++ (encode_utf8 (digit_char (c / 16)) ++ encode_utf8 (digit_char (c % 16)))
control_cut c is = ap (λ b. if b then codes "\\x" ++ (encode_utf8 (digit_char (c / 16)) ++ encode_utf8 (digit_char (c % 16))) else encode_utf8 c) is

-- what is shown up to a character, it, and what is shown behind it
pub shown_cut : (all before : List ℕ) (c : ℕ) → map (λ x. x) before ≡ take (length before) all → length before < length all → c ≡ get_or all (length before) c
    → (rest : List ℕ) × (flat_map shown_char all ≡ flat_map shown_char before ++ (shown_char c ++ rest))
shown_cut all before c so_far low is =
    let n = length before in
    let behind = drop (n + 1) all in
    let front : take (n + 1) all ≡ before ++ c ∷ [] = take_more all n c low ∙ ap₂ (λ l x. l ++ x ∷ []) (sym so_far ∙ map-id before) (sym is) in
    let whole : all ≡ before ++ c ∷ behind = sym (take-append-drop (n + 1) all) ∙ ap (λ l. l ++ behind) front ∙ append_assoc before (c ∷ []) behind in
    (flat_map shown_char behind, ap (flat_map shown_char) whole ∙ flat_map-append shown_char before (c ∷ behind))

-- characters in their bytes
pub encodes_flat : (cs : List ℕ) → flat_map encode_utf8 cs ≡ encodes cs
encodes_flat [] = refl
encodes_flat (c ∷ cs) = ap (λ l. encode_utf8 c ++ l) (encodes_flat cs)
