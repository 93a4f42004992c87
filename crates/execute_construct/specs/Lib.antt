pub mod ConsWays
