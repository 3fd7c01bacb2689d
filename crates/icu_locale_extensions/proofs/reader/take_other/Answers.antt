use Rattle.std.proofs.Common.{◌≡◌, ℕ, List, Option, [], Some, None, true, false, inr, not, ◌&&◌, is_some, if◌then◌else◌, refl, ap, sym, ◌∙◌}
use Rattle.std.specs.Prelude.{option_copied}
use denote.Ref.{Bor}
use Rattle.icu_locale_core.specs.Maps.{value_at}
use Rattle.icu_locale_core.specs.TextSet.{text_cmp}
use Rattle.icu_locale_extensions.specs.Extensions.{is_piece}
use Rattle.icu_locale_extensions.specs.laws.Reader.{read_on}
use Rattle.icu_locale_extensions.specs.Built.{with_others}
use Rattle.icu_locale_core.specs.Maps.{add_first}
use Rattle.icu_locale_extensions.specs.laws.Reader.Part.{whole, other}
use Rattle.icu_locale_extensions.specs.inner.Takes.{read_opened}
use Rattle.icu_locale_extensions.proofs.Taking.{opened_taken, first-front, end_from}
use Rattle.icu_locale_extensions.proofs.reader.take_other.Goals as goal

is_some-copied : {X : Type 0} (o : Option (Bor X)) → is_some (option_copied o) ≡ is_some o
is_some-copied None = refl
is_some-copied (Some v) = refl

pub returns-clause-read : goal.returns-clause-read
returns-clause-read c =
    let x = c.args.x.now in
    let ps = c.args.pieces.now in
    let s = c.in-Some.singleton in
    let e = c.in-Some.ensures in
    let there = λ (k : List ℕ). is_some (value_at text_cmp x.others k) in
    let fresh : there s ≡ false = ap is_some (sym c.get.ensures) ∙ is_some-copied c.get.result ∙ sym c.is_some.ensures ∙ c.if-is_some.false in
    (λ i. read_opened (if sym e.accepted i && not ((ap there (sym e.read) ∙ fresh) i) then Some (other (sym e.read i)) else None) x ps)
    ∙ opened_taken (other s) x ps (sym (first-front (is_piece 2) ps) ∙ c.in_ok-value.ensures.some refl)
    ∙ (λ i. read_on whole [] (with_others x ((ap (add_first text_cmp x.others s) (sym c.in_ok-value.ensures.read)
    ∙ sym c.in_ok-add.ensures.rows) i))
    (sym c.in_ok-value.ensures.rest i))

pub returns-clause-rest : goal.returns-clause-rest
returns-clause-rest c = end_from _ c.read_front.new.pieces c.args.pieces.now c.in_ok-value.ensures.rest

-- the singleton is there
pub returns-then-is_some-clause-read : goal.returns-then-is_some-clause-read
returns-then-is_some-clause-read c =
    let x = c.args.x.now in
    let s = c.in-Some.singleton in
    let e = c.in-Some.ensures in
    let there = λ (k : List ℕ). is_some (value_at text_cmp x.others k) in
    let known : there s ≡ true = ap is_some (sym c.get.ensures) ∙ is_some-copied c.get.result ∙ sym c.is_some.ensures ∙ c.if-is_some.true in
    inr (λ i. read_opened (if sym e.accepted i && not ((ap there (sym e.read) ∙ known) i) then Some (other (sym e.read i)) else None) x c.args.pieces.now)
