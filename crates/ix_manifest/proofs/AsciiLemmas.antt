-- The text of a lawful manifest is ASCII.
use Rattle.std.proofs.Common.{◌≡◌, ℕ, ◌^◌, ◌<◌, Bool, true, ◌&&◌, nat_lt, List, [], ◌∷◌, ◌++◌, All, Option, Some, None, refl, ◌∙◌, arith}
use Rattle.std.specs.Prelude.{IfSome, IsAscii, IsUtf8, codes, decimal}
use Rattle.std.specs.List.{flat_map}
use Rattle.std.proofs.lemmas.Bool.{and_parts, ltb-true}
use Rattle.std.proofs.lemmas.Fmt.{IsAscii-decimal}
use Rattle.std.proofs.lemmas.List.Elements.{All-head, All-tail}
use Rattle.std.proofs.lemmas.Str.{IsAscii-append, IsUtf8-from_ascii}
use Rattle.std.proofs.lemmas.Str.Ascii.{IsAscii-cons, IsAscii-nil}
use Rattle.hex.specs.Hex.{encode_lower, lower_digits}
use Rattle.hex.proofs.HexLemmas.{IsAscii-encode_with}
use Rattle.sha2.specs.Sha256.{sha256}
use Rattle.ix_manifest.specs.ManifestText.{AreFields, IsManifest, IsRemovals, IsSegment, ManifestView, body_text, end_text, fields_text, head_text, manifest_text, removals_text, segment_text}
use Rattle.ix_manifest.specs.declared.manifest.Removals.{Removals}
use Rattle.ix_manifest.specs.declared.manifest.Segment.{Segment}

-- a test of bytes, which computes
abbrev are_low : List ℕ → Bool
are_low [] = true
are_low (byte ∷ bytes) = nat_lt byte 128 && are_low bytes

low_ascii : (bytes : List ℕ) → are_low bytes ≡ true → IsAscii bytes
low_ascii [] low = IsAscii-nil
low_ascii (byte ∷ bytes) low =
    let parts = and_parts (nat_lt byte 128) (are_low bytes) low in
    IsAscii-cons byte bytes (ltb-true byte 128 parts.0) (low_ascii bytes parts.1)

digits_ascii : (bytes : List ℕ) → IsAscii (encode_lower bytes)
digits_ascii bytes = IsAscii-encode_with lower_digits bytes (low_ascii lower_digits refl)

fields_ascii : (next file count bytes : ℕ) (digest : List ℕ) → next < 2 ^ 64 → AreFields next file count bytes digest → IsAscii (fields_text file count bytes digest)
fields_ascii next file count bytes digest bound are =
    let space : IsAscii (codes " ") = low_ascii (codes " ") refl in
    let first : file < 2 ^ 64 = omega (arith, are.below) in
    IsAscii-append _ (10 ∷ [])
    (IsAscii-append _ (encode_lower digest)
    (IsAscii-append _ (codes " ")
    (IsAscii-append _ (decimal bytes)
    (IsAscii-append _ (codes " ")
    (IsAscii-append _ (decimal count)
    (IsAscii-append (decimal file) (codes " ") (IsAscii-decimal file first) space)
    (IsAscii-decimal count are.counted))
    space)
    (IsAscii-decimal bytes are.sized))
    space)
    (digits_ascii digest))
    (low_ascii (10 ∷ []) refl)

segments_ascii : (next : ℕ) (segments : List Segment) → next < 2 ^ 64 → All (IsSegment next) segments → IsAscii (flat_map segment_text segments)
segments_ascii next [] bound each = IsAscii-nil
segments_ascii next (segment ∷ segments) bound each =
    let is = All-head (IsSegment next) segment segments each in
    IsAscii-append (segment_text segment) (flat_map segment_text segments)
    (IsAscii-append (codes "segment ") _ (low_ascii (codes "segment ") refl) (fields_ascii next segment.file segment.documents segment.bytes segment.digest bound is.fields))
    (segments_ascii next segments bound (All-tail (IsSegment next) segment segments each))

removals_ascii : (next : ℕ) (segments : List Segment) (removals : Option Removals) → next < 2 ^ 64 → IfSome removals (IsRemovals next segments) → IsAscii (removals_text removals)
removals_ascii next segments None bound is = IsAscii-nil
removals_ascii next segments (Some removals) bound is =
    IsAscii-append (codes "removals ") _ (low_ascii (codes "removals ") refl) (fields_ascii next removals.file removals.count removals.bytes removals.digest bound is.fields)

head_ascii : (next : ℕ) → next < 2 ^ 64 → IsAscii (head_text next)
head_ascii next bound =
    IsAscii-append (codes "ix archive 1" ++ 10 ∷ codes "next " ++ decimal next) (10 ∷ [])
    (IsAscii-append (codes "ix archive 1" ++ 10 ∷ codes "next ") (decimal next) (low_ascii (codes "ix archive 1" ++ 10 ∷ codes "next ") refl) (IsAscii-decimal next bound))
    (low_ascii (10 ∷ []) refl)

end_ascii : (bytes : List ℕ) → IsAscii (end_text bytes)
end_ascii bytes =
    IsAscii-append (codes "end " ++ encode_lower (sha256 bytes)) (10 ∷ [])
    (IsAscii-append (codes "end ") (encode_lower (sha256 bytes)) (low_ascii (codes "end ") refl) (digits_ascii (sha256 bytes)))
    (low_ascii (10 ∷ []) refl)

pub manifest_utf8 : (view : ManifestView) → IsManifest view → IsUtf8 (manifest_text view)
unfolding manifest_text body_text
manifest_utf8 view is =
    let front = IsAscii-append (head_text view.next) (flat_map segment_text view.segments) (head_ascii view.next is.bound) (segments_ascii view.next view.segments is.bound is.segments.each) in
    let body = IsAscii-append (head_text view.next ++ flat_map segment_text view.segments) (removals_text view.removals) front (removals_ascii view.next view.segments view.removals is.bound is.removals) in
    IsUtf8-from_ascii (manifest_text view) (IsAscii-append (body_text view) (end_text (body_text view)) body (end_ascii (body_text view)))

-- the longest front of the text that is UTF-8 is all of it
pub front_whole : (bytes front : List ℕ) (view : ManifestView) → IsManifest view → bytes ≡ manifest_text view → (IsUtf8 bytes → front ≡ bytes) → front ≡ manifest_text view
front_whole bytes front view lawful is whole = whole (rw is (manifest_utf8 view lawful)) ∙ is
