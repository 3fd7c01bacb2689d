-- Where a key is among rows whose keys rise, or would go.
pub use Rattle.icu_locale_core.specs.Places.{IsAt, IsGapFor, IsNearest}
