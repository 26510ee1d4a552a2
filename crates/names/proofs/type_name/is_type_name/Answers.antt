use Rattle.std.proofs.Common.{rules}
use Rattle.names.proofs.TypeNames.{scan_told}
use Rattle.names.proofs.type_name.is_type_name.Goals as goal

pub returns : goal.returns
returns c = scan_told c.args.text.now c.scan_of.result c.is_some_and.result c.scan_of.ensures c.is_some_and.ensures (λ s asked. search rules)
