-- Members that are read one after another: what a reader of them knows, and how it goes on.
use Rattle.std.specs.Prelude.{◌≡◌, Option, Result, Ok, Err}
use Rattle.serde_json.specs.View.{view}
use Rattle.icu_tables.specs.Shape.{Shape}
use Rattle.icu_tables.specs.declared.error.TableError.{TableError}
use Rattle.icu_tables.specs.declared.from_json.objects.MemberReader.{MemberReader}
use Rattle.icu_tables.specs.inner.Reads.{Fills}

-- after a refusal nothing is read, and before one a place is filled with what is said, or that is refused
abbrev pub FillsAfter : {A : Type 0} → Result (Unit {0}) TableError → Result (Unit {0}) TableError
    → A → Option A → Type 0
FillsAfter (Ok done) after new said = Fills after new said
FillsAfter (Err e) after new said = after ≡ Err e

-- a reader of the same object has filled one place more
pub record GoesOn {A : Type 0} (before after : MemberReader) (new : A) (say : Shape A) : Type 0 where
  pub object : after.object.now ≡ before.object.now
  pub outcome : FillsAfter before.outcome after.outcome new (say (view before.object.now))

-- the table that was filled, unless something was refused
abbrev pub or_refusal : {T : Type 0} → Result (Unit {0}) TableError → T → Result T TableError
or_refusal (Ok done) table = Ok table
or_refusal (Err e) table = Err e
