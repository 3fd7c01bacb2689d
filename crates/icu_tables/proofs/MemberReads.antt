-- Members that are read one after another: what was filled so far tells what the object says so far.
use Rattle.std.proofs.Common.{◌≡◌, Option, Some, Result, Ok, Err, refl, ap, ◌∙◌}
use Rattle.serde_json.specs.Data.{Data}
use Rattle.serde_json.specs.View.{view}
use Rattle.serde_json.specs.declared.value.Value.{Value}
use Rattle.icu_tables.specs.declared.error.TableError.{TableError}
use Rattle.icu_tables.specs.declared.from_json.objects.MemberReader.{MemberReader}
use Rattle.icu_tables.specs.inner.Members.{FillsAfter, GoesOn, or_refusal}
use Rattle.icu_tables.specs.inner.Reads.{Fills, Reads}
use Rattle.icu_tables.specs.Shape.{Shape, applied}
use Rattle.icu_tables.proofs.Items.{refused_last, refused_before}

-- what was filled so far, seen as x, is what the object says so far, or that was refused
pub record Tells {A : Type 0} (reader : MemberReader) (value : Data) (x : A) (said : Option A) : Type 0 where
  pub same : view reader.object.now ≡ value
  pub outcome : Fills reader.outcome x said

-- nothing was read
pub Tells-start : {A : Type 0} {reader : MemberReader} {object : Value} {make : A} → reader.object.now ≡ object → reader.outcome ≡ Ok tt
    → Tells reader (view object) make (Some make)
Tells-start same none = record { same = ap view same; outcome = rw none refl }

fills_more : {A B : Type 0} (before after : Result (Unit {0}) TableError) (make : A → B) (new : A) (made : Option (A → B)) (said : Option A)
    → Fills before make made → FillsAfter before after new said → Fills after (make new) (applied made said)
fills_more (Ok done) (Ok more) make new made said told filled = ap (λ f. applied f said) told ∙ ap (applied (Some make)) filled
fills_more (Ok done) (Err e) make new made said told filled = refused_last e made said filled
fills_more (Err e) after make new made said told filled = rw filled (refused_before e made said told)

infixl 5 ◌and_fills◌
-- one member more was read
pub ◌and_fills◌ : {A B : Type 0} {before after : MemberReader} {value : Data} {make : A → B} {new : A} {made : Option (A → B)} {say : Shape A}
    → Tells before value make made → GoesOn before after new say → Tells after value (make new) (applied made (say value))
told and_fills more =
    let filled = rw told.same at more.outcome in
    record { same = ap view more.object ∙ told.same; outcome = fills_more _ _ _ _ _ _ told.outcome filled }

reads_filled : {T A : Type 0} (seen : T → A) (outcome : Result (Unit {0}) TableError) (table : T) (said : Option A)
    → Fills outcome (seen table) said → Reads seen (or_refusal outcome table) said
reads_filled seen (Ok done) table said told = told
reads_filled seen (Err e) table said told = told

-- all members were read
pub Reads-told : {T A : Type 0} (seen : T → A) {reader : MemberReader} {value : Data} (table : T) {result : Result T TableError}
    (said : Option A) → Tells reader value (seen table) said → result ≡ or_refusal reader.outcome table → Reads seen result said
Reads-told seen table said told is = rw is (reads_filled seen _ table said told.outcome)
