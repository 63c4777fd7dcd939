-- What any map of bytes is.
use Rattle.std.specs.Prelude.{◌<◌, List}
use Rattle.std.specs.List.{All}
use Rattle.byte_map.specs.Image.{addresses, Run, AreMaximal}

-- a map of bytes: runs that are each as long as possible, where each byte is below 256
pub record IsByteMap (map : List Run) : Type 0 where
  pub maximal : AreMaximal 0 addresses map
  pub small : All (λ run. All (λ byte. byte < 256) run.bytes) map
