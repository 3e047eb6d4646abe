-- What a link in memory tells.
use Rattle.std.specs.Prelude.{ℕ, ◌-◌, drop, vec_len, Option, Some}
use Rattle.std.specs.declared.num.NonZeroUsize.{NonZeroUsize}
use Rattle.outside.specs.Failing.{fault_count, is_sure}
use Rattle.outside.specs.Links.{LinkTold}
use Rattle.outside.specs.declared.memory.failing.Failing.{Failing}
use Rattle.outside.specs.declared.memory.link.MemLink.{MemLink}

-- what a link tells
abbrev pub link_told : MemLink → LinkTold
link_told link = record {
  left = Some (drop link.taken link.bytes.items);
  written = Some link.written.items;
  faults = fault_count link.failing;
  never_fails = is_sure link.failing;
}

-- its calls that fail
abbrev pub link_failing : MemLink → Failing
link_failing link = link.failing

-- the most bytes that it takes or gives at a time, where there is a bound
abbrev pub link_bound : MemLink → Option NonZeroUsize
link_bound link = link.at_most

-- how many bytes are left to read
abbrev pub left_len : MemLink → ℕ
left_len link = vec_len link.bytes - link.taken
