-- Two bytes, or the only one, tell whether such a code stands first.
use Rattle.std.proofs.Common.{◌≡◌, get_or, inl, arith}
use Rattle.std.proofs.lemmas.Option.{IfSome_then}
use Rattle.ix_vbyte.proofs.ShortPostings.{IfNone_then, get_or-past, none_begins, short_found}
use Rattle.ix_vbyte.proofs.short_postings.short_number.Goals as goal

pub returns-in-empty-clause-none : goal.returns-in-empty-clause-none
returns-in-empty-clause-none c number behind some fits e =
    let bytes = c.args.bytes.now in
    none_begins bytes number behind some fits e (inl (get_or-past bytes 0 (omega (arith, c.in-empty.len_below))))

pub returns-in-len1-clause-found : goal.returns-in-len1-clause-found
returns-in-len1-clause-found c =
    let bytes = c.args.bytes.now in
    let past : get_or bytes 1 0 ≡ 0 = get_or-past bytes 1 (omega (arith, c.in-len1.len_below)) in
    IfSome_then c.short_code.result c.short_code.ensures.found
    (λ read code. short_found bytes read.0 read.1 (omega (arith, c.in-len1.len_at_least)) (c.type_inv.bytes 0).fits (c.type_inv.bytes 1).fits (rw past code))

pub returns-in-len1-clause-none : goal.returns-in-len1-clause-none
returns-in-len1-clause-none c =
    let bytes = c.args.bytes.now in
    let past : get_or bytes 1 0 ≡ 0 = get_or-past bytes 1 (omega (arith, c.in-len1.len_below)) in
    IfNone_then c.short_code.result c.short_code.ensures.none
    (λ no_code number behind some fits e. none_begins bytes number behind some fits e (rw past no_code))

pub returns-in-len2-up-clause-found : goal.returns-in-len2-up-clause-found
returns-in-len2-up-clause-found c =
    let bytes = c.args.bytes.now in
    IfSome_then c.short_code-in-len2-up.result c.short_code-in-len2-up.ensures.found
    (λ read code. short_found bytes read.0 read.1 (omega (arith, c.in-len2-up.len_at_least)) (c.type_inv.bytes 0).fits (c.type_inv.bytes 1).fits code)

pub returns-in-len2-up-clause-none : goal.returns-in-len2-up-clause-none
returns-in-len2-up-clause-none c =
    IfNone_then c.short_code-in-len2-up.result c.short_code-in-len2-up.ensures.none
    (λ no_code number behind some fits e. none_begins c.args.bytes.now number behind some fits e no_code)
