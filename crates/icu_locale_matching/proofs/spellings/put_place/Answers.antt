use Rattle.std.proofs.Common.{length, refl, sym, ap, ◌∙◌}
use Rattle.std.proofs.lemmas.Bool.{false≢true}
use Rattle.std.proofs.lemmas.Option.{slice_get_read}
use Rattle.std.specs.BTreeMap.{insert_entry}
use Rattle.icu_provider.specs.contracts.names.NameKeyOrd.TheImpl as name_key
use Rattle.icu_locale_matching.proofs.Spelled.{more_spelled, passed_over}
use Rattle.icu_locale_matching.proofs.spellings.put_place.Goals as goal

pub returns-then-not-is_empty : goal.returns-then-not-is_empty
returns-then-not-is_empty c =
    let xs = c.args.identifiers.now in
    let y = c.index-identifiers-place.result in
    let stands = slice_get_read xs (length xs) c.args.place y refl c.requires c.index-identifiers-place.is in
    λ known. passed_over xs c.args.place y stands c.args.rows.now
    (λ e. false≢true (sym c.if-not-is_empty.true ∙ c.is_empty.ensures.1 e)) known

pub returns-in-Ok : goal.returns-in-Ok
returns-in-Ok c =
    let xs = c.args.identifiers.now in
    let y = c.index-identifiers-place.result in
    let stands = slice_get_read xs (length xs) c.args.place y refl c.requires c.index-identifiers-place.is in
    let rows = c.in-Ok.ensures.rows ∙ ap (λ k. insert_entry name_key.ghosts.cmp c.args.rows.now k c.args.place) c.key_of.ensures in
    λ known. more_spelled xs c.args.place y stands c.args.rows.now c.insert.new.self c.requests_in_order.ensures.keys
    (c.is_empty.ensures.0 c.if-not-is_empty.false) rows known
