use Rattle.std.proofs.Common.{◌≡◌, ◌<◌, ◌+◌, ◌^◌, ◌∷◌, [], ◌++◌, length, min, inl, inr, refl, sym, ap, ◌∙◌, ⊎_elim, arith, length-append}
use Rattle.std.proofs.lemmas.Bool.Decides.{nat_tests}
use Rattle.std.proofs.lemmas.List.{length-map}
use Rattle.std.proofs.lemmas.List.Sums.{sum_by_push}
use Rattle.std.proofs.lemmas.Result.{err_from_is_err_and}
use Rattle.ix_file.specs.Frames.{version_in}
use Rattle.ix_index_text.specs.Listings.{Listing, listing_bytes, last_listed}
use Rattle.ix_file.specs.ReadListings.{listing_in, listing_read, listings_in, sizes_sum}
use Rattle.ix_file.specs.PlacedTerms.{placed_at}
use Rattle.ix_file.proofs.ListingReading.{no_listings, listings_push, last_short, listings_of_none, listings_more, listings_all, none_next, listing_pushed, lie_push, lie_at, most, sum_small}
use Rattle.ix_index_text.proofs.ListingsTold.{listings_told, some_listing_byte}
use Rattle.ix_file.proofs.open.dictionary.read_dictionary.Goals as goal

pub loop-left-init : goal.loop-left-init
loop-left-init c =
    rw c.in_ok-terms.ensures
    (record { lawful = no_listings c.args.stop.now; read = listings_of_none (version_in c.args.version) c.args.section.now; end = refl; lie = tt })

pub read_row-requires : goal.read_row-requires
read_row-requires c =
    let before : c.last_text.result.now ≡ last_listed (listings_in c.loop-left.terms) =
    c.last_text.ensures in
    omega (arith, ap length before, last_short c.args.stop.now (listings_in c.loop-left.terms) c.loop-left.invariant.lawful)

pub returns-in_err-read-clause-refused : goal.returns-in_err-read-clause-refused
returns-in_err-read-clause-refused c =
    let p = err_from_is_err_and c.from_residual-in_err-read.result c.from_residual-in_err-read.ensures.1 in
    let done = listings_in c.loop-left.terms in
    let some : 0 < length c.loop-left.left.now = grind (arith, nat_tests, c.is_empty.ensures, c.loop-left-test.true) in
    let before : c.last_text.result.now ≡ last_listed done = c.last_text.ensures in
    let place : c.len.result ≡ length done = omega (arith, c.len.ensures.count, length-map c.loop-left.terms listing_in) in
    let refused = rw (place, before) at c.in_err-read.ensures.refused in
    rw (p.1, p.2)
    (⊎_elim inl
    (λ none. inr (λ listings are count sum same.
    none_next (version_in c.args.version) c.args.stop.now c.args.section.now done c.loop-left.left.now c.loop-left.invariant.read some none listings are same))
    refused)

pub loop-left-smaller : goal.loop-left-smaller
loop-left-smaller c =
    let listing = listing_read c.in_ok-read.read in
    let piece = listing_bytes (version_in c.args.version) c.len.result c.last_text.result.now listing in
    omega (arith, ap length c.in_ok-read.ensures.found, length-append piece c.in_ok-read.rest.now, some_listing_byte (version_in c.args.version) c.len.result c.last_text.result.now listing)

pub loop-left-preserved : goal.loop-left-preserved
loop-left-preserved c =
    let old = c.loop-left.terms in
    let done = listings_in old in
    let read = c.in_ok-read.read in
    let listing = listing_read read in
    let added = placed_at c.as_str.result.now (record { start = c.loop-left.start; size = read.size; documents = read.documents }) in
    let before : c.last_text.result.now ≡ last_listed done = c.last_text.ensures in
    let place : c.len.result ≡ length done = omega (arith, c.len.ensures.count, length-map old listing_in) in
    let pushed : listings_in c.push.new.self ≡ done ++ listing ∷ [] = listing_pushed old read c.as_str.result.now c.loop-left.start c.push.new.self c.in_ok-push.ensures c.as_str.ensures.value in
    let may = rw before at c.in_ok-read.ensures.term in
    let found = rw (place, before) at c.in_ok-read.ensures.found in
    let end : c.loop-left.start ≡ min (sizes_sum done) most = c.loop-left.invariant.end in
    let sum : sizes_sum (done ++ listing ∷ []) ≡ sizes_sum done + read.size = sum_by_push (λ (l : Listing). l.size) done listing in
    let first : sizes_sum done ≡ 0 + sizes_sum done = omega arith in
    record {
      lawful = rw pushed (listings_push c.args.stop.now done listing c.loop-left.invariant.lawful may c.in_ok-read.ensures.counts);
      read = rw pushed (listings_more (version_in c.args.version) c.args.section.now done listing c.loop-left.left.now c.in_ok-read.rest.now c.loop-left.invariant.read found);
      end = rw pushed (omega (arith, c.saturating_add-start.ensures, end, sum));
      lie = rw c.in_ok-push.ensures (lie_push 0 old added c.loop-left.invariant.lie (end ∙ ap (λ n. min n most) first));
    }

pub returns-then-len-count-clause-refused : goal.returns-then-len-count-clause-refused
returns-then-len-count-clause-refused c =
    let done = listings_in c.loop-left.terms in
    let version = version_in c.args.version in
    let nothing : length c.loop-left.left.now ≡ 0 = grind (arith, nat_tests, c.is_empty.ensures, c.loop-left-test.false) in
    inr
    (λ listings are count sum same.
    let whole = listings_told version listings done (sym same ∙ listings_all version c.args.section.now done c.loop-left.left.now c.loop-left.invariant.read nothing) in
    let other = c.if-len-count.true in
    omega (arith, other, count, ap length whole, c.len-2.ensures.count, length-map c.loop-left.terms listing_in))

pub returns-then-start-postings-clause-refused : goal.returns-then-start-postings-clause-refused
returns-then-start-postings-clause-refused c =
    let done = listings_in c.loop-left.terms in
    let version = version_in c.args.version in
    let nothing : length c.loop-left.left.now ≡ 0 = grind (arith, nat_tests, c.is_empty.ensures, c.loop-left-test.false) in
    inr
    (λ listings are count sum same.
    let whole = listings_told version listings done (sym same ∙ listings_all version c.args.section.now done c.loop-left.left.now c.loop-left.invariant.read nothing) in
    let few : length listings < 2 ^ 32 = omega (arith, count) in
    let small = sum_small listings are.counts few in
    let other = c.if-start-postings.true in
    omega (arith, other, sum, small, ap sizes_sum whole, c.loop-left.invariant.end))

pub returns-clause-counts : goal.returns-clause-counts
returns-clause-counts c =
    let done = listings_in c.loop-left.terms in
    let count : length c.loop-left.terms ≡ c.args.count = omega (arith, c.if-len-count.false, c.len-2.ensures.count) in
    let small = sum_small done c.loop-left.invariant.lawful.counts (omega (arith, count, length-map c.loop-left.terms listing_in)) in
    rw c.fit.ensures (count, omega (arith, c.if-start-postings.false, small, c.loop-left.invariant.end))

pub returns-clause-starts : goal.returns-clause-starts
returns-clause-starts c =
    rw c.fit.ensures
    (λ n row is.
    let done = listings_in c.loop-left.terms in
    let few : length done < 2 ^ 32 = omega (arith, c.if-len-count.false, c.len-2.ensures.count, length-map c.loop-left.terms listing_in) in
    let start = lie_at 0 c.loop-left.terms n row c.loop-left.invariant.lie (omega (arith, sum_small done c.loop-left.invariant.lawful.counts few)) is in
    omega (arith, start))
