use Rattle.std.proofs.Common.{◌≡◌, ◌++◌, ◌∷◌, ◌+◌, [], codes, take, subst, sym, arith, Ok}
use Rattle.std.proofs.lemmas.Grind.{common_steps}
use Rattle.icu_locale_core.specs.Subtag.{lowercase}
use Rattle.icu_locale_core.specs.laws.TextSinks.{refused_later}
use Rattle.icu_locale_extensions.proofs.writing.write_lower.Goals as goal

pub returns-in_err-write_ascii-2 : goal.returns-in_err-write_ascii-2
returns-in_err-write_ascii-2 g c =
    refused_later g.S.TextSink.Writes g.met.S.TextSink.further g.met.S.TextSink.broken _ _ _ _ _ _ _ _ c.loop-byte.invariant c.in_err-write_ascii-2.ensures c.from_residual-in_err-write_ascii-2.ensures.0

pub loop-byte-preserved : goal.loop-byte-preserved
loop-byte-preserved g c =
    let text = c.args.text.now in
    let i = c.loop-byte.byte-index in
    let more : lowercase (take (i + 1) text) ≡ lowercase (take i text) ++ c.to_ascii_lowercase.result ∷ [] = grind (arith, common_steps) in
    subst (λ l. g.S.TextSink.Writes c.args.sink.now (codes "-" ++ l) (Ok tt) c.write_ascii-in-loop-byte.new.self) (sym more)
    (g.met.S.TextSink.further _ _ _ _ _ _ c.loop-byte.invariant c.in_ok-write_ascii-2.ensures)
