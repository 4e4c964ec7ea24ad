-- RULES 2.1: the constants. Definitions only.
use Rattle.num_working.specs.Number.{decimal, whole}
use Rattle.eos_constants.specs.declared.Constants.{Constants}

-- the critical temperature in K, the critical density in kg/m³, the gas constant in J/(kg K), the critical pressure in Pa
unfoldable pub span_wagner : Constants
span_wagner = record {
  temperature = decimal 3041282 4;
  density = decimal 4676 1;
  gas = decimal 1889241 4;
  pressure = whole 7377300;
}
