-- The engine of the kit's base64 that mailbox names take.

use Rattle.std.specs.Prelude.{◌≡◌}
use Rattle.base64.specs.GeneralPurpose.{engine_config, engine_symbols}
use Rattle.base64.specs.declared.engine.general_purpose.GeneralPurpose.{GeneralPurpose}
use Rattle.base64.specs.declared.engine.general_purpose.TheConstants.{NO_PAD}
use Rattle.mailbox_utf7.specs.ModifiedUtf7.{symbols}

-- Modified base64: its symbols, no padding, and no bits left over.
pub record IsMailboxEngine (engine : GeneralPurpose) : Type 0 where
  pub has_symbols : engine_symbols engine ≡ symbols
  pub has_no_padding : engine_config engine ≡ NO_PAD
