use Rattle.std.proofs.Common.{◌<◌, length, subst}
use Rattle.std.specs.List.{All}
use Rattle.icu_locale_core.specs.TextSet.{text_cmp}
use Rattle.icu_locale_core.specs.Maps.{IsSortedMap}
use Rattle.icu_tables_flat.specs.Flat.{FlatRows}
use Rattle.icu_tables_flat.specs.inner.Views.{parts_of}
use Rattle.icu_tables_flat.proofs.Forms.{formed}
use Rattle.icu_tables_flat.proofs.texts.FlatTexts.known.Goals as goal

pub returns-clause-names : goal.returns-clause-names
returns-clause-names c =
    subst (λ (f : FlatRows). IsSortedMap text_cmp f.groups) c.self.view_is (formed (parts_of c.self.inside) c.self.invariant).names

pub returns-clause-keys : goal.returns-clause-keys
returns-clause-keys c =
    subst (λ (f : FlatRows). All (IsSortedMap text_cmp) f.runs) c.self.view_is (formed (parts_of c.self.inside) c.self.invariant).keys

pub returns-clause-there : goal.returns-clause-there
returns-clause-there c =
    subst (λ (f : FlatRows). All (λ group. group.1 < length f.runs) f.groups) c.self.view_is
    (formed (parts_of c.self.inside) c.self.invariant).there
