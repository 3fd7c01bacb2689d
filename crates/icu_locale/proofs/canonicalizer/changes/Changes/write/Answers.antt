use Rattle.std.proofs.Common.{refl}
use Rattle.icu_locale.specs.Canonical.{rg, sd}
use Rattle.icu_locale.proofs.Values.{put_optional-other}
use Rattle.icu_locale.proofs.canonicalizer.changes.Changes.write.Goals as goal

pub put-is_subdivision_changed-requires : goal.put-is_subdivision_changed-requires
put-is_subdivision_changed-requires c there =
    let keywords = c.args.locale.now.extensions.unicode.keywords in
    rw (c.put-is_region_changed.ensures.rows, put_optional-other keywords rg sd c.args.self.region_override refl) (c.requires.subdivision there)
