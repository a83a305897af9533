-- What the fields of the plain writer stand for.
use Rattle.std.specs.Prelude.{◌≡◌, length}
use Rattle.std.specs.Ordering.{nat_cmp}
use Rattle.std.specs.FinSet as set
use Rattle.test_forms.specs.declared.writer.PlainWriter.TheInside.{Inside}
use Rattle.dds_writer.specs.Writer.{WriterState, IsKept, IsHeld}

abbrev pub view_of : Inside → WriterState
view_of a = record {
  me = a.me;
  limits = a.limits;
  proxies = a.proxies.items;
  kept = a.kept.items;
  last = a.last;
  keys = set.from_list a.keys.items;
  written = a.written;
}

-- no key is listed twice, and what is kept and held is right
pub record IsSound (a : Inside) : Type 0 where
  pub counted : set.len (set.from_list {R = nat_cmp} a.keys.items) ≡ length a.keys.items
  pub kept : IsKept (view_of a)
  pub held : IsHeld (view_of a)
