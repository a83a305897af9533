use Rattle.std.proofs.Common.{◌≡◌, ℕ, ◌∙◌, sym, ap, position}
use Rattle.std.specs.Prelude.{is_some}
use Rattle.dds_base.proofs.NumberedLaws.{is_some-position}
use Rattle.dds_writer.specs.Proxies.{is_of}
use Rattle.dds_writer.proofs.InOrder.{found_proxy}
use Rattle.dds_writer.proofs.proxies.proxy_of.Goals as goal

pub unwrap-requires : goal.unwrap-requires
unwrap-requires c =
    let place : c.place_of.result ≡ position (is_of c.args.reader) c.args.proxies.now = c.place_of.ensures ∙ ap (λ (r : ℕ). position (is_of r) c.args.proxies.now) c.number.ensures in
    ap is_some place ∙ is_some-position (is_of c.args.reader) c.args.proxies.now ∙ c.requires.matched

pub returns : goal.returns
returns c =
    let place : c.place_of.result ≡ position (is_of c.args.reader) c.args.proxies.now = c.place_of.ensures ∙ ap (λ (r : ℕ). position (is_of r) c.args.proxies.now) c.number.ensures in
    found_proxy c.args.reader c.args.proxies.now c.unwrap.result c.index-proxies-unwrap.result (sym place ∙ c.unwrap.ensures) c.index-proxies-unwrap.is
