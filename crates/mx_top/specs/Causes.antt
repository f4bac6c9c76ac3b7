-- Only private functions and proofs need these: when a run may stop by a fault of what is outside.
use Rattle.std.specs.Prelude.{◌≡◌, ◌⊎◌, ℕ, ◌≤◌}
use Rattle.mx_outside.specs.Causes.{Rose}

-- No count of faults fell. The failures of the input, the output and the directory come only where its count rose, and where
-- there is none of them it is as it was.
pub record HasCauses (input_failed output_failed directory_failed : Type 0) (read read_now written written_now disk disk_now : ℕ) : Type 0 where
  pub reads : read ≤ read_now
  pub read_fault : input_failed → Rose read read_now
  pub read_quiet : input_failed ⊎ (read_now ≡ read)
  pub writes : written ≤ written_now
  pub write_fault : output_failed → Rose written written_now
  pub write_quiet : output_failed ⊎ (written_now ≡ written)
  pub disks : disk ≤ disk_now
  pub disk_fault : directory_failed → Rose disk disk_now
  pub disk_quiet : directory_failed ⊎ (disk_now ≡ disk)
