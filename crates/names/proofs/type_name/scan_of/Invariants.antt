use Rattle.std.proofs.Common.{◌≡◌, drop}
use Rattle.names.specs.declared.type_name.Scan.TheVariants.{Start}
use Rattle.names.specs.Scan.{scanned}
use Rattle.names.proofs.type_name.scan_of.Given as goal

abbrev pub invariant-loop-byte : goal.invariant-loop-byte
invariant-loop-byte l = scanned l.scan (drop l.byte-index l.text) ≡ scanned Start l.text
