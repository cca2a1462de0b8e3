-- Each field is read, and what is behind it is the fields that follow.
use Rattle.std.proofs.Common.{◌^◌, ◌<◌, ◌∙◌, arith}
use Rattle.ix_manifest.proofs.ScanLemmas.{fields_before}
use Rattle.ix_manifest.proofs.scan.scan_fields.Goals as goal

pub returns-in_err-file-clause-exact : goal.returns-in_err-file-clause-exact
returns-in_err-file-clause-exact c = λ next file count bytes digest rest bound are is.
    let first : file < 2 ^ 64 = omega (arith, are.below) in
    absurd (c.in_err-file.ensures.exact file _ first (is ∙ fields_before file count bytes digest rest))

pub returns-in_err-count-clause-exact : goal.returns-in_err-count-clause-exact
returns-in_err-count-clause-exact c = λ next file count bytes digest rest bound are is.
    let first : file < 2 ^ 64 = omega (arith, are.below) in
    let one = c.in_ok-file.ensures.exact file _ first (is ∙ fields_before file count bytes digest rest) in
    absurd (c.in_err-count.ensures.exact count _ are.counted one.1)

pub returns-in_err-bytes-clause-exact : goal.returns-in_err-bytes-clause-exact
returns-in_err-bytes-clause-exact c = λ next file count bytes digest rest bound are is.
    let first : file < 2 ^ 64 = omega (arith, are.below) in
    let one = c.in_ok-file.ensures.exact file _ first (is ∙ fields_before file count bytes digest rest) in
    let two = c.in_ok-count.ensures.exact count _ are.counted one.1 in
    absurd (c.in_err-bytes.ensures.exact bytes _ are.sized two.1)

pub returns-in_err-digest-clause-exact : goal.returns-in_err-digest-clause-exact
returns-in_err-digest-clause-exact c = λ next file count bytes digest rest bound are is.
    let first : file < 2 ^ 64 = omega (arith, are.below) in
    let one = c.in_ok-file.ensures.exact file _ first (is ∙ fields_before file count bytes digest rest) in
    let two = c.in_ok-count.ensures.exact count _ are.counted one.1 in
    let three = c.in_ok-bytes.ensures.exact bytes _ are.sized two.1 in
    absurd (c.in_err-digest.ensures.exact digest rest are.long are.octets three.1)

pub returns-clause-exact : goal.returns-clause-exact
returns-clause-exact c = λ next file count bytes digest rest bound are is.
    let first : file < 2 ^ 64 = omega (arith, are.below) in
    let one = c.in_ok-file.ensures.exact file _ first (is ∙ fields_before file count bytes digest rest) in
    let two = c.in_ok-count.ensures.exact count _ are.counted one.1 in
    let three = c.in_ok-bytes.ensures.exact bytes _ are.sized two.1 in
    let four = c.in_ok-digest.ensures.exact digest rest are.long are.octets three.1 in
    (cc (one.0, two.0, three.0, four.0), four.1)
