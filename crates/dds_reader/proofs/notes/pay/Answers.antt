use Rattle.std.proofs.Common.{◌≡◌, ◌∙◌, sym, subst, List, Some, None, position, get_or, rules}
use Rattle.dds_base.proofs.NumberedLaws.{changed_at, changed_nowhere}
use Rattle.dds_reader.specs.declared.notes.WriterProxy.{WriterProxy}
use Rattle.dds_reader.specs.Notes.{pays_one}
use Rattle.dds_reader.proofs.NoteLaws.{Of, placed, pays_one_other}
use Rattle.dds_reader.proofs.notes.pay.Goals as goal

-- no two notes are of one writer, so the one that is found changes alone
pub returns-in-Some : goal.returns-in-Some
returns-in-Some c =
    let ps = c.args.proxies.now.items in
    let found : position (Of c.args.writer) ps ≡ Some c.in-Some.at =
    subst (λ (l : List WriterProxy). position (Of c.args.writer) l ≡ Some c.in-Some.at) c.deref.ensures.value
    (placed c.number.result c.args.writer c.deref.result.now c.place_of.result c.number.ensures c.place_of.ensures ∙ c.in-Some.is) in
    let read : c.index.result.now ≡ get_or ps c.in-Some.at c.index.result.now = search rules in
    changed_at (λ (p : WriterProxy). p.writer) ps (c.requires c.if-not-rising.false) c.args.writer c.in-Some.at (pays_one c.args.writer) c.index.result.now c.pay_one.result
    found (pays_one_other c.args.writer) read c.pay_one.ensures

-- no note is of the writer
pub returns-in_default : goal.returns-in_default
returns-in_default c =
    let ps = c.args.proxies.now.items in
    let missing : position (Of c.args.writer) ps ≡ None =
    subst (λ (l : List WriterProxy). position (Of c.args.writer) l ≡ None) c.deref.ensures.value
    (placed c.number.result c.args.writer c.deref.result.now c.place_of.result c.number.ensures c.place_of.ensures ∙ c.in_default.is) in
    sym (changed_nowhere (λ (p : WriterProxy). p.writer) ps c.args.writer (pays_one c.args.writer) missing (pays_one_other c.args.writer))
