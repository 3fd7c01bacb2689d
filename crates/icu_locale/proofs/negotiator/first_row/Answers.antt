use Rattle.std.proofs.Common.{get_or, refl, ap, sym, ◌∙◌}
use Rattle.std.proofs.lemmas.Bool.{false≢true}
use Rattle.icu_locale_core.specs.declared.langid.LanguageIdentifier.{LanguageIdentifier}
use Rattle.icu_locale_core.specs.laws.Identifiers.{sets_tell}
use Rattle.icu_locale.proofs.Negotiating.{read_at_place, other_variants, none_more}
use Rattle.icu_locale.proofs.negotiator.first_row.Goals as goal

-- the row's identifier has the variants, and no earlier one
pub returns-then-eq : goal.returns-then-eq
returns-then-eq c =
    let row = c.row-item.result in
    let id = c.index-available-row.result in
    let stands = read_at_place c.args.available.now c.args.rows.now c.loop-row.row-index row id c.requires c.loop-row-test.true
    c.row-item.is c.index-available-row.is in
    let read : LanguageIdentifier = get_or c.args.available.now row.place id in
    let is = ap (λ (x : LanguageIdentifier). x.variants) c.index-available-row.is in
    let same = is ∙ (sets_tell read.variants c.args.variants.now).0 (sym c.eq.ensures ∙ c.if-eq.true) in (
      c.loop-row.row-index,
      record {
        row = row;
        in_range = c.loop-row-test.true;
        stands = sym c.row-item.is;
        has = record { identifier = id; stands = stands; same = same };
        is_place = refl;
        before = c.loop-row.invariant;
      },
    )

-- it has others
pub loop-row-preserved : goal.loop-row-preserved
loop-row-preserved c =
    let row = c.row-item.result in
    let id = c.index-available-row.result in
    let stands = read_at_place c.args.available.now c.args.rows.now c.loop-row.row-index row id c.requires c.loop-row-test.true
    c.row-item.is c.index-available-row.is in
    let read : LanguageIdentifier = get_or c.args.available.now row.place id in
    let is = ap (λ (x : LanguageIdentifier). x.variants) c.index-available-row.is in
    none_more c.args.available.now c.args.variants.now c.args.rows.now c.loop-row.row-index row c.loop-row.invariant c.loop-row-test.true c.row-item.is
    (other_variants c.args.available.now c.args.variants.now row id stands (λ same. false≢true
    (sym c.if-eq.false ∙ c.eq.ensures ∙ (sets_tell read.variants c.args.variants.now).1 (sym is ∙ same))))
