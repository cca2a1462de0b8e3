use Rattle.std.proofs.Common.{◌≡◌, ◌<◌, ◌^◌, ⊎_elim, length, ap, arith}
use Rattle.std.proofs.lemmas.Result.{err_from_is_err_and}
use Rattle.ix_file.specs.Frames.{FileSectionTexts, framed, texts_in, version_in}
use Rattle.ix_file.specs.Opened.{Opened}
use Rattle.ix_file.specs.Places.{texts_at}
use Rattle.ix_file.specs.Spelled.{AreSectionsOf}
use Rattle.ix_file.specs.Tables.{opened_in}
use Rattle.ix_file.proofs.Opening.{IsOpenedFrom, is_index_of, never_refused, never_uncut, opened_from}
use Rattle.ix_file.proofs.volume.Volume.open_beside.Goals as goal

pub returns-in_err-frame-clause-exact : goal.returns-in_err-frame-clause-exact
returns-in_err-frame-clause-exact g c =
    let p = err_from_is_err_and c.from_residual.result c.from_residual.ensures.1 in
    rw (p.1, ← c.deref.ensures.value)
    (λ version collection text. absurd (never_uncut c.deref.result.now c.in_err-frame.ensures.refused version collection text))

pub returns-in_err-tables-clause-exact : goal.returns-in_err-tables-clause-exact
returns-in_err-tables-clause-exact g c =
    let frame = c.in_ok-frame.frame in
    let p = err_from_is_err_and c.from_residual-in_err-tables.result c.from_residual-in_err-tables.ensures.1 in
    let short : length c.deref.result.now < 2 ^ 64 = rw c.deref.ensures.value (omega arith) in
    rw (p.1, p.2, ← c.deref.ensures.value)
    (λ version collection text.
    ⊎_elim (λ memory. memory)
    (λ none. absurd (never_refused c.deref.result.now (version_in frame.version) (texts_in frame.sections) frame.documents frame.terms short c.in_ok-frame.ensures.few.0 c.in_ok-frame.ensures.few.1 c.in_ok-frame.ensures.found none version collection text))
    c.in_err-tables.ensures.refused)

pub returns : goal.returns
returns g c =
    let frame = c.in_ok-frame.frame in
    let texts = texts_in frame.sections in
    let tables = c.in_ok-tables.tables in
    let opened = opened_in texts tables in
    let same = ap version_in c.in_ok-tables.ensures.version in
    let e : c.deref.result.now ≡ framed opened.version texts frame.documents frame.terms = rw same c.in_ok-frame.ensures.found in
    let spelled : AreSectionsOf opened.version opened.parts opened.grams texts frame.documents frame.terms = rw same c.in_ok-tables.ensures.spelled in
    let from = opened_from c.deref.result.now opened texts frame.documents frame.terms e c.in_ok-tables.ensures.tables.lawful c.in_ok-tables.ensures.tables.grams spelled in
    let places : texts_at c.args.bytes.items c.places_of-places.result ≡ texts = rw (← c.deref-2.ensures.value) c.places_of-places.ensures.texts in
    let with_texts : FileSectionTexts → Opened = λ t. opened_in t tables in
    let shown = with_texts (texts_at c.args.bytes.items c.places_of-places.result) in
    let here : IsOpenedFrom shown c.args.bytes.items = rw (ap with_texts places, ← c.deref.ensures.value) from in
    record { found = (here.collection, here.is, here.text); exact = is_index_of c.args.bytes.items shown here }
