-- The size of an index text, and how its first bytes tell its version.
use Rattle.std.proofs.Common.{◌≡◌, ℕ, ◌≤◌, List, length, get_or, refl, ap, arith, length-append}
use Rattle.std.specs.Int.{to_le_bytes, w32, w64}
use Rattle.ix_text.specs.Parts.{Parts, GramEntry}
use Rattle.ix_index_text.specs.IndexText.{magic, end_mark, tail, layout}
use Rattle.ix_index_text.specs.Sections.{Version, Plain, FrontCoded}

pub length-magic : (version : Version) → length (magic version) ≡ 8
unfolding magic
length-magic Plain = refl
length-magic FrontCoded = refl

pub length-end_mark : (version : Version) → length (end_mark version) ≡ 8
unfolding end_mark
length-end_mark Plain = refl
length-end_mark FrontCoded = refl

pub length-eight : (n : ℕ) → length (to_le_bytes w64 n) ≡ 8
length-eight n = refl

pub length-four : (n : ℕ) → length (to_le_bytes w32 n) ≡ 4
length-four n = refl

-- the byte that tells the version
abbrev pub version_byte : Version → ℕ
version_byte Plain = 49
version_byte FrontCoded = 50

pub has_version_byte : (version : Version) (parts : Parts) (grams : List GramEntry) → get_or (layout version parts grams) 7 0 ≡ version_byte version
unfolding layout magic
has_version_byte Plain parts grams = refl
has_version_byte FrontCoded parts grams = refl

pub length-layout : (version : Version) (parts : Parts) (grams : List GramEntry) (bytes : List ℕ) → bytes ≡ layout version parts grams → 64 ≤ length bytes
unfolding layout tail
length-layout version parts grams bytes spelled =
    let e = ap length spelled in
    let simple = simp length-append at e in
    omega (arith, simple, length-magic version, length-end_mark version)
