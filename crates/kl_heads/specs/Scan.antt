-- What a scan over several bytes answers. No public contract cites this.
use Rattle.std.specs.Prelude.{◌≡◌, ℕ, ◌<◌, ◌≤◌, List, length, ⊤, Result, Ok, Err}
use Rattle.std.proofs.Common.{drop}
use Rattle.kl_heads.specs.Machine.{Run, more, ends, no_head, fails, deep, start}
use Rattle.kl_heads.specs.declared.machine.Machine.{Machine}
use Rattle.kl_heads.specs.declared.scan.Scanned.{Scanned}
use Rattle.kl_heads.specs.declared.scan.Scanned.TheVariants as scanned
use Rattle.kl_heads.specs.declared.scan.Halt.{Halt}
use Rattle.kl_heads.specs.declared.scan.Halt.TheVariants as halt

abbrev pub Scans : List ℕ → Machine → Result Scanned Halt → Run → Type 0
Scans bytes now (Ok scanned.More) o = o ≡ more now
Scans bytes now (Ok (scanned.Ends t count)) o = (count ≤ length bytes) × (o ≡ ends t (drop count bytes)) × (now ≡ start)
Scans bytes now (Ok scanned.NoHead) o = o ≡ no_head
Scans bytes now (Err (halt.Bad count)) o = (count < length bytes) × (o ≡ fails (drop count bytes))
Scans bytes now (Err (halt.TooDeep count)) o = (count < length bytes) × (o ≡ deep (drop count bytes))
Scans bytes now (Err halt.NoMemory) o = ⊤
