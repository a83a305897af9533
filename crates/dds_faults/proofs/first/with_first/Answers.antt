use Rattle.std.specs.Prelude.{◌≡◌, List, refl, IsTrue, None}
use Rattle.std.specs.List.{insert}
use Rattle.std.proofs.Common.{rules, sym, subst}
use Rattle.dds_faults.specs.declared.fault.FileFault.{FileFault}
use Rattle.dds_faults.specs.Listed.{IsListed}
use Rattle.dds_faults.proofs.Listed.{listed_first}
use Rattle.dds_faults.proofs.first.with_first.Goals as goal

-- it was found among them
pub returns-then-is_listed : goal.returns-then-is_listed
returns-then-is_listed c =
    let found : IsTrue c.is_listed.result = search rules in
    subst (λ (faults : List FileFault). IsListed c.args.first.now.number c.args.first.now.name.now c.args.first.now.path.now faults) c.deref.ensures.value (c.is_listed.ensures found)

-- it was put before them
pub returns : goal.returns
returns c =
    let put : c.insert.new.self.items ≡ insert c.args.faults.items 0 (record { number = c.args.first.now.number; name = c.args.first.now.name; path = c.in_ok-path.path; message = c.in_ok-message.message; help = None }) = c.in_ok-insert.ensures.items in
    subst (λ (faults : List FileFault). IsListed c.args.first.now.number c.args.first.now.name.now c.args.first.now.path.now faults) (sym put) (listed_first _ _ _ _ _ (record { number_is = refl; name_is = refl; path_is = c.in_ok-path.ensures.ok }))
