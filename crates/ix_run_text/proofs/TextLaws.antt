-- The size of a run text.
use Rattle.std.proofs.Common.{◌≡◌, ℕ, ◌≤◌, List, length, refl, ap, arith, length-append}
use Rattle.std.specs.Int.{to_le_bytes, w32}
use Rattle.ix_text.specs.Parts.{Parts}
use Rattle.ix_vbyte.proofs.Values.{some_code_byte}
use Rattle.ix_run_text.specs.RunText.{head_bytes, run_layout}

pub length-four : (n : ℕ) → length (to_le_bytes w32 n) ≡ 4
length-four n = refl

pub length-run_layout : (first : ℕ) (parts : Parts) (bytes : List ℕ) → bytes ≡ run_layout first parts → 18 ≤ length bytes
unfolding run_layout head_bytes
length-run_layout first parts bytes spelled =
    let e = ap length spelled in
    let simple = simp length-append at e in
    omega (arith, simple, some_code_byte (length parts.stop))
