-- The device of every FLM file lies in memory, so the regions that fit it have addresses.
use Rattle.std.proofs.Common.{◌≡◌, ℕ, ◌+◌, ◌≤◌, ◌^◌, Bool, true, false, ◌||◌, cond, eqb, ltb, List, length, Option, Some, None, Result, Ok, Err, refl, ap}
use Rattle.std.proofs.Common.{subst, arith}
use Rattle.std.proofs.lemmas.Bool.{ltb-false}
use Rattle.std.specs.Option.{option_map}
use Rattle.faults.specs.Results.{◌>>=◌}
use Rattle.elf32.specs.Checks.{file_fault}
use Rattle.flm_descriptor.specs.declared.device.Device.{Device}
use Rattle.flm_descriptor.specs.declared.items.SectorItem.{SectorItem}
use Rattle.flm_descriptor.specs.declared.fault.FlmFault.{FlmFault}
use Rattle.flm_descriptor.specs.declared.fault.FlmFault.TheVariants.{BadDevice}
use Rattle.flm_descriptor.specs.declared.fault.Name.TheVariants as name
use Rattle.flm_descriptor.specs.declared.parts.Sections.{Sections}
use Rattle.flm_descriptor.specs.Results.{outer, unless}
use Rattle.flm_descriptor.specs.Shape.{Shape, shape, sectors, pages}
use Rattle.flm_descriptor.specs.Shown.{Shown}
use Rattle.flm_descriptor.specs.Parts.{Contents, sections_of, contents_of, symbols_of, entries_of, data_places, place_of}
use Rattle.flm_descriptor.specs.Described.{device_of, items_of}
use Rattle.flm_descriptor.specs.Lawful.{addresses}
use Rattle.flm_descriptor.specs.Limits.{page_fault, gap_fault, order_fault, size_fault, device_fault}
use Rattle.flm_descriptor.specs.Flm.{Described, limits_of, described_of, algorithm_of, flm_of}
use Rattle.job_text.proofs.Steps.{bind_ok, ok_is}

-- a device has no more bytes than a board may have, and ends in memory
pub record IsInMemory (device : Device) : Type 0 where
  pub small : device.size ≤ 16777216
  pub ends : device.base + device.size ≤ 2 ^ 32

no_fault : (o : Option FlmFault) → unless o ≡ Ok tt → o ≡ None
no_fault None e = refl
no_fault (Some f) e = absurd cc

none_if : (b : Bool) (f : FlmFault) → cond b (Some f) None ≡ None → b ≡ false
none_if true f e = absurd cc
none_if false f e = refl

or_parts : (a b : Bool) → (a || b) ≡ false → (a ≡ false) × (b ≡ false)
or_parts true b e = absurd cc
or_parts false b e = (refl, e)

fitting : (device : Device) (s : Shape) → s.size ≡ device.size → device_fault device.base s ≡ None → IsInMemory device
unfolding device_fault
fitting device s same e =
    let test = none_if ((eqb s.size 0) || ltb 16777216 s.size || ltb addresses (device.base + s.size) || ltb 65536 (length (sectors s)) || ltb 1048576
    (length (pages s))) (BadDevice s.size) e in
    let a = or_parts ((eqb s.size 0) || ltb 16777216 s.size || ltb addresses (device.base + s.size) || ltb 65536 (length (sectors s)))
    (ltb 1048576 (length (pages s))) test in
    let b = or_parts ((eqb s.size 0) || ltb 16777216 s.size || ltb addresses (device.base + s.size)) (ltb 65536 (length (sectors s))) a.0 in
    let c = or_parts ((eqb s.size 0) || ltb 16777216 s.size) (ltb addresses (device.base + s.size)) b.0 in
    let d = or_parts (eqb s.size 0) (ltb 16777216 s.size) c.0 in
    let small : s.size ≤ 16777216 = ltb-false _ _ d.1 in
    let ends : device.base + s.size ≤ addresses = ltb-false _ _ c.1 in
    record { small = omega (arith, small, same); ends = omega (arith, ends, same) }

limited : (device : Device) (items : List SectorItem) → limits_of device items ≡ Ok tt → IsInMemory device
unfolding limits_of
limited device items e =
    let page = bind_ok (unless (page_fault device.page)) (λ page. unless (gap_fault items) >>= λ gap. unless (order_fault items) >>= λ order. unless
    (size_fault items) >>= λ size. unless (device_fault device.base (shape device.size device.page items))) tt e in
    let gap = bind_ok (unless (gap_fault items)) (λ gap. unless (order_fault items) >>= λ order. unless (size_fault items) >>= λ size. unless
    (device_fault device.base (shape device.size device.page items))) tt page.2 in
    let order = bind_ok (unless (order_fault items)) (λ order. unless (size_fault items) >>= λ size. unless
    (device_fault device.base (shape device.size device.page items))) tt gap.2 in
    let size = bind_ok (unless (size_fault items)) (λ size. unless (device_fault device.base (shape device.size device.page items))) tt order.2 in
    fitting device (shape device.size device.page items) refl (no_fault (device_fault device.base (shape device.size device.page items)) size.2)

unit_is : (r : Result (Unit {0}) FlmFault) (u : Unit {0}) → r ≡ Ok u → r ≡ Ok tt
unit_is r u e = e

described : (bytes : List ℕ) (at : ℕ) (d : Described) → described_of bytes at ≡ Ok d → IsInMemory d.device
unfolding described_of
described bytes at d e =
    let device = bind_ok (device_of bytes at) (λ device. items_of bytes at >>= λ items. limits_of device items >>= λ lawful. Ok
    (record { device = device; items = items })) d e in
    let items = bind_ok (items_of bytes at) (λ items. limits_of device.0 items >>= λ lawful. Ok (record { device = device.0; items = items })) d device.2 in
    let lawful = bind_ok (limits_of device.0 items.0) (λ lawful. Ok (record { device = device.0; items = items.0 })) d items.2 in
    let made : Described = record { device = device.0; items = items.0 } in
    subst (λ (x : Described). IsInMemory x.device) (ok_is {E = FlmFault} made d lawful.2)
    (limited device.0 items.0 (unit_is (limits_of device.0 items.0) lawful.0 lawful.1))

of_parts : (bytes : List ℕ) (sections : Sections) (contents : Contents) (a : Shown) → algorithm_of bytes sections contents ≡ Ok a → IsInMemory a.device
unfolding algorithm_of
of_parts bytes sections contents a e =
    let symbols = bind_ok (symbols_of bytes) _ a e in
    let entries = bind_ok (entries_of sections.code symbols.0) _ a symbols.2 in
    let at = bind_ok (place_of sections.descriptor name.FlashDevice symbols.0.device symbols.0.device) _ a entries.2 in
    let layout = bind_ok (data_places sections) _ a at.2 in
    let said = bind_ok (described_of contents.descriptor at.0) _ a layout.2 in
    let same : said.0.device ≡ a.device = ap (λ (r : Result Shown FlmFault). device_in r said.0.device) said.2 in
    subst IsInMemory same (described contents.descriptor at.0 said.0 said.1)
  where
    device_in : Result Shown FlmFault → Device → Device
    device_in (Ok x) d = x.device
    device_in (Err f) d = d

-- the device in an FLM file lies in memory
pub device_in_memory : (bytes : List ℕ) (a : Shown) → flm_of bytes ≡ Ok a → IsInMemory a.device
unfolding flm_of
device_in_memory bytes a e =
    let elf = bind_ok (unless (option_map outer (file_fault bytes))) _ a e in
    let sections = bind_ok (sections_of bytes) _ a elf.2 in
    let contents = bind_ok (contents_of bytes sections.0) _ a sections.2 in
    of_parts bytes sections.0 contents.0 a contents.2
